-- Runs of a world, station by station, and runs of deliveries in another order.
use Rattle.std.{proofs.Common.{◌≡◌, ℕ, Bool, true, false, cond, List, [], ◌∷◌, ◌++◌, Some, None, map, All, refl, ap, sym, subst, ◌∙◌, bytes_eq, IsPermutation}, specs.List.cons_option, proofs.lemmas.List.Elements.{All-cons, All-head, All-nil, All-tail}}
use Rattle.ledger_model.{specs.declared.command.Command.Command, specs.declared.command.Command.TheVariants.{Deliver, Void, Restore, Erase}, specs.declared.answer.Answer.Answer, specs.declared.answer.Answer.TheVariants.{Accepted, Repeat, Refused}, specs.Limits.Bounds, specs.Content.Content, specs.Laws.{AreAccepted, IsAccepted, deliveries, left_by}, specs.Step.{answer, content_after, step}, specs.World.{Station, World, Happens, run, station_after, world_after}, specs.WorldLaws.{AreReordered, IsDelivery, accepted_deliveries, commands_on, delivered_by, station_left}, proofs.Deliveries.each_order_delivers}

-- ---- station by station

run_none : (hs : List Happens) → run [] hs ≡ []
run_none [] = refl
run_none (h ∷ hs) = run_none hs

-- a station after the first of a run's commands, which may be on another
left_after : (hs : List Happens) (s : Station) (command : Command) (b : Bool)
    → station_left hs (cond b (station_after s command) s) ≡ record s { content = left_by s.limits s.content (cons_option (cond b (Some command) None) (commands_on s.name hs)) }
left_after hs s command true = refl
left_after hs s command false = refl

run_first : (hs : List Happens) (s : Station) (w : World) → run (s ∷ w) hs ≡ station_left hs s ∷ run w hs
run_first [] s w = refl
run_first (h ∷ hs) s w =
    run_first hs (cond (bytes_eq h.0 s.name) (station_after s h.1) s) (world_after w h)
    ∙ ap (λ t. t ∷ run (world_after w h) hs) (left_after hs s h.1 (bytes_eq h.0 s.name))

pub each_by_its_own : (w : World) (hs : List Happens) → run w hs ≡ map (station_left hs) w
each_by_its_own [] hs = run_none hs
each_by_its_own (s ∷ w) hs = run_first hs s w ∙ ap (λ t. station_left hs s ∷ t) (each_by_its_own w hs)

pub run_append : (w : World) (one other : List Happens) → run w (one ++ other) ≡ run (run w one) other
run_append w [] other = refl
run_append w (h ∷ one) other = run_append (world_after w h) one other

-- ---- deliveries in another order

-- what is not accepted changes nothing, and what is accepted is delivered
one_delivery : (limits : Bounds) (c : Content) (command : Command) (commands : List Command) (a : Answer) → IsDelivery command → a ≡ answer limits c command
    → let rest = accepted_deliveries limits (content_after c command a) commands in
    AreAccepted limits (content_after c command a) (deliveries rest)
    → AreAccepted limits c (deliveries (delivered_by command a ++ rest))
    × (left_by limits c (deliveries (delivered_by command a ++ rest)) ≡ left_by limits (content_after c command a) (deliveries rest))
one_delivery limits c (Deliver key event) commands (Accepted n) is e all =
    let same = ap (content_after c (Deliver key event)) e in (
      (subst IsAccepted e tt, subst (λ d. AreAccepted limits d (deliveries (accepted_deliveries limits (content_after c (Deliver key event) (Accepted n)) commands))) same all),
      ap (λ d. left_by limits d (deliveries (accepted_deliveries limits (content_after c (Deliver key event) (Accepted n)) commands))) (sym same),
    )
one_delivery limits c (Deliver key event) commands Repeat is e all = (all, refl)
one_delivery limits c (Deliver key event) commands (Refused why) is e all = (all, refl)
one_delivery limits c (Void key) commands a is e all = absurd is
one_delivery limits c (Restore key) commands a is e all = absurd is
one_delivery limits c (Erase key) commands a is e all = absurd is

-- the accepted ones of deliveries are accepted one after the other, and leave what all leave
pub delivers : (limits : Bounds) (c : Content) (commands : List Command) → All IsDelivery commands
    → AreAccepted limits c (deliveries (accepted_deliveries limits c commands))
    × (left_by limits c (deliveries (accepted_deliveries limits c commands)) ≡ left_by limits c commands)
delivers limits c [] all = (tt, refl)
delivers limits c (command ∷ commands) all =
    let later = delivers limits (step limits c command).0 commands (All-tail IsDelivery command commands all) in
    let first = one_delivery limits c command commands (answer limits c command) (All-head IsDelivery command commands all) refl later.0 in
    (first.0, first.1 ∙ later.1)

-- the commands on a station are deliveries where all of the run are
delivered_on : (name : List ℕ) (hs : List Happens) → All (λ h. IsDelivery h.1) hs → All IsDelivery (commands_on name hs)
delivered_on name [] all = All-nil IsDelivery
delivered_on name (h ∷ hs) all = at (bytes_eq h.0 name) (All-head (λ g. IsDelivery g.1) h hs all) (delivered_on name hs (All-tail (λ g. IsDelivery g.1) h hs all))
  where
    at : (b : Bool) → IsDelivery h.1 → All IsDelivery (commands_on name hs) → All IsDelivery (cons_option (cond b (Some h.1) None) (commands_on name hs))
    at true is rest = All-cons IsDelivery h.1 (commands_on name hs) is rest
    at false is rest = rest

pub reordered_station : (s : Station) (one other : List Happens) → All (λ h. IsDelivery h.1) one → All (λ h. IsDelivery h.1) other
    → IsPermutation (accepted_deliveries s.limits s.content (commands_on s.name one)) (accepted_deliveries s.limits s.content (commands_on s.name other))
    → station_left one s ≡ station_left other s
reordered_station s one other o r same =
    let a = delivers s.limits s.content (commands_on s.name one) (delivered_on s.name one o) in
    let b = delivers s.limits s.content (commands_on s.name other) (delivered_on s.name other r) in
    ap (λ c. record s { content = c }) (sym a.1 ∙ sym ((each_order_delivers s.limits s.content _ _ same a.0).content) ∙ b.1)

-- the same deliveries at a station, in another order
abbrev Reorders : List Happens → List Happens → Station → Type 0
Reorders one other s = IsPermutation (accepted_deliveries s.limits s.content (commands_on s.name one)) (accepted_deliveries s.limits s.content (commands_on s.name other))

reordered_stations : (w : World) (one other : List Happens) → All (λ h. IsDelivery h.1) one → All (λ h. IsDelivery h.1) other → All (Reorders one other) w
    → map (station_left one) w ≡ map (station_left other) w
reordered_stations [] one other o r all = refl
reordered_stations (s ∷ w) one other o r all =
    ap (λ t. t ∷ map (station_left one) w) (reordered_station s one other o r (All-head (Reorders one other) s w all))
    ∙ ap (λ l. station_left other s ∷ l) (reordered_stations w one other o r (All-tail (Reorders one other) s w all))

pub reordered_runs : (w : World) (one other : List Happens) → AreReordered w one other → run w one ≡ run w other
reordered_runs w one other r =
    each_by_its_own w one ∙ reordered_stations w one other r.one_delivers r.other_delivers r.orders ∙ sym (each_by_its_own w other)
