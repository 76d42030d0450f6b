-- The world after lines is the run of the commands that they ask.
use Rattle.std.{proofs.Common.{◌≡◌, ℕ, Bool, true, false, cond, List, [], ◌∷◌, ◌++◌, Option, None, Some, All, bytes_eq, refl, sym, ap, subst, ◌∙◌, append-nil, append_assoc, suc, arith}, proofs.lemmas.Bool.false≢true, proofs.lemmas.List.map-append, proofs.lemmas.List.Elements.{All-append, All-cons, All-nil}}
use Rattle.ledger_model.{specs.declared.command.Command.Command, specs.declared.command.Command.TheVariants.Deliver, specs.declared.order.Order.Order, specs.Content.empty_content, specs.World.{Station, World, Happens, run, station_after, world_after}, specs.WorldLaws.{AreReordered, IsDelivery}, proofs.Runs.{reordered_runs, run_append}, specs.Periods.Periods}
use Rattle.transaction_event.specs.Message.{Meaning, Event, Ready, Silence, message}
use Rattle.script_lines.{specs.declared.script_line.LineFault.TheVariants.{DeclaredLate, PlanLimit}, specs.Lines.Line, specs.LineMeaning.{LineMeaning, nothing, fails, sets_limits, declares, sets_period, sets_order, sets_settle, tells, sends, delivers, commands, asks_energy, asks_export, asks_total, asks_board, lists, asks_meaning, marks, line_meaning}, specs.Texts.fault_line}
use Rattle.script_replay.{specs.Laws.{asked_by, asked_of, commanded_by, emptied, happened, sent_by, IsNoOperation, OrderChangesNoBoard, UnacceptedChangesNothing, WorldsAreRuns}, proofs.ReachedStations.{kept_from_start, same_world}}
use Rattle.script_ledgers.{proofs.Told.delivered_state, specs.Script.{KeepsSites, Script, start, are_limits, board_answer, by_meaning, commanded_to, declared_to, is_past_plan, is_period, joined_by, lasting, limited_to, line_step, order_to, ordered_by, period_to, sent_to, settle_to, settled_by, settling, site_number, station_named, step_by, script_after}}

-- ---- stations without events

emptied_one : (b : Bool) (s : Station) (command : Command) → emptied (cond b (station_after s command) s ∷ []) ≡ emptied (s ∷ [])
emptied_one true s command = refl
emptied_one false s command = refl

emptied_after : (w : World) (h : Happens) → emptied (world_after w h) ≡ emptied w
emptied_after [] h = refl
emptied_after (s ∷ ss) h = ap (λ l. l ++ emptied (world_after ss h)) (emptied_one (bytes_eq h.0 s.name) s h.1) ∙ ap (λ l. emptied (s ∷ []) ++ l) (emptied_after ss h)

-- ---- what a step keeps

-- the world is a run of these commands, and there are none before the ledgers are opened
abbrev IsRun : Script → List Happens → Type 0
IsRun s hs = (s.world ≡ run (emptied s.world) hs) × (s.opened ≡ false → hs ≡ [])

-- nothing asked, nothing changed
still : (s t : Script) (hs : List Happens) → t.world ≡ s.world → (t.opened ≡ false → s.opened ≡ false) → IsRun s hs → IsRun t (hs ++ [])
still s t hs same opened is =
    let all : t.world ≡ run (emptied t.world) hs = same ∙ is.0 ∙ ap (λ w. run (emptied w) hs) (sym same) in
    (all ∙ ap (run (emptied t.world)) (sym (append-nil hs)), λ f. append-nil hs ∙ is.1 (opened f))

-- one command more
one_more : (s t : Script) (hs : List Happens) (h : Happens) → t.world ≡ world_after s.world h → t.opened ≡ true → IsRun s hs → IsRun t (hs ++ h ∷ [])
one_more s t hs h after opened is =
    let start_alike : emptied t.world ≡ emptied s.world = ap emptied after ∙ emptied_after s.world h in
    let ran : run (emptied s.world) (hs ++ h ∷ []) ≡ world_after s.world h = run_append (emptied s.world) hs (h ∷ []) ∙ ap (λ w. world_after w h) (sym is.0) in
    (after ∙ sym ran ∙ ap (λ w. run w (hs ++ h ∷ [])) (sym start_alike), λ f. absurd (false≢true (sym f ∙ opened)))

-- one station more, before any command
one_joined : (s t : Script) (hs : List Happens) (new : Station) → t.world ≡ s.world ++ new ∷ [] → emptied (new ∷ []) ≡ new ∷ [] → s.opened ≡ false → IsRun s hs → IsRun t (hs ++ [])
one_joined s t hs new joined fresh closed is =
    let none : hs ≡ [] = is.1 closed in
    let empty : s.world ≡ emptied s.world = is.0 ∙ ap (run (emptied s.world)) none in
    let all : t.world ≡ emptied t.world =
    joined ∙ ap (λ w. w ++ new ∷ []) empty ∙ ap (λ l. emptied s.world ++ l) (sym fresh)
    ∙ sym (map-append (λ (x : Station). record x { content = empty_content }) s.world (new ∷ [])) ∙ ap emptied (sym joined) in
    (all ∙ ap (run (emptied t.world)) (sym (append-nil hs ∙ none)), λ f. append-nil hs ∙ none)

run_limited : (is : Bool) (s : Script) (t e r c : ℕ) (hs : List Happens) → IsRun s hs
    → IsRun (cond {A = Script × List ℕ} is (record s { limits = record { transactions = t; events = e; readings = r; changes = c } }, []) (s, fault_line PlanLimit)).0 (hs ++ [])
run_limited true s t e r c hs ran = still s (record s { limits = record { transactions = t; events = e; readings = r; changes = c } }) hs refl (λ f. f) ran
run_limited false s t e r c hs ran = still s s hs refl (λ f. f) ran

run_joined : (o : Option Station) (s : Script) (site name : List ℕ) (hs : List Happens) → s.opened ≡ false → IsRun s hs → IsRun (joined_by o s site name).0 (hs ++ [])
run_joined None s site name hs closed ran = one_joined s (joined_by None s site name).0 hs _ refl refl closed ran
run_joined (Some _) s site name hs closed ran = still s s hs refl (λ f. f) ran

run_declared : (past : Bool) (s : Script) (site name : List ℕ) (hs : List Happens) → s.opened ≡ false → IsRun s hs
    → IsRun (cond past (s, fault_line PlanLimit) (joined_by (station_named name s.world) s site name)).0 (hs ++ [])
run_declared true s site name hs closed ran = still s s hs refl (λ f. f) ran
run_declared false s site name hs closed ran = run_joined (station_named name s.world) s site name hs closed ran

run_settled : (o : Option ℕ) (s : Script) (change : Periods → Periods) (hs : List Happens) → IsRun s hs → IsRun (settled_by o s change).0 (hs ++ [])
run_settled None s change hs ran = still s s hs refl (λ f. f) ran
run_settled (Some number) s change hs ran = still s (settled_by (Some number) s change).0 hs refl (λ f. f) ran

run_period : (is : Bool) (s : Script) (o : Option ℕ) (change : Periods → Periods) (hs : List Happens) → IsRun s hs → IsRun (cond is (settled_by o s change) (s, fault_line PlanLimit)).0 (hs ++ [])
run_period true s o change hs ran = run_settled o s change hs ran
run_period false s o change hs ran = still s s hs refl (λ f. f) ran

run_ordered : (o : Option ℕ) (s : Script) (order : Order) (hs : List Happens) → IsRun s hs → IsRun (ordered_by o s order).0 (hs ++ [])
run_ordered None s order hs ran = still s s hs refl (λ f. f) ran
run_ordered (Some number) s order hs ran = still s (ordered_by (Some number) s order).0 hs refl (λ f. f) ran

run_late : (late : Bool) (s : Script) (after : Script × List ℕ) (hs : List Happens) → s.opened ≡ late → IsRun s hs
    → (s.opened ≡ false → IsRun after.0 (hs ++ [])) → IsRun (cond late (s, fault_line DeclaredLate) after).0 (hs ++ [])
run_late true s after hs e ran then = still s s hs refl (λ f. f) ran
run_late false s after hs e ran then = then e

run_meaning : (meaning : Meaning) (station : Station) (s : Script) (hs : List Happens) → IsRun s hs → IsRun (by_meaning meaning station s).0 (hs ++ asked_by meaning station)
run_meaning (Event id request) station s hs ran = one_more s (by_meaning (Event id request) station s).0 hs (station.name, Deliver request.key request.event) refl refl ran
run_meaning (Ready reply) station s hs ran = still s (record s { opened = true }) hs refl (λ f. absurd (false≢true (sym f))) ran
run_meaning Silence station s hs ran = still s (record s { opened = true }) hs refl (λ f. absurd (false≢true (sym f))) ran

run_sent : (station : Option Station) (s : Script) (text : List ℕ) (hs : List Happens) → IsRun s hs → IsRun (sent_to station s text).0 (hs ++ sent_by station text s.moment)
run_sent None s text hs ran = still s (record s { opened = true }) hs refl (λ f. absurd (false≢true (sym f))) ran
run_sent (Some station) s text hs ran = run_meaning (message text s.moment) station s hs ran

run_commanded : (station : Option Station) (s : Script) (command : Command) (hs : List Happens) → IsRun s hs → IsRun (commanded_to station s command).0 (hs ++ commanded_by station command)
run_commanded None s command hs ran = still s (record s { opened = true }) hs refl (λ f. absurd (false≢true (sym f))) ran
run_commanded (Some station) s command hs ran = one_more s (commanded_to (Some station) s command).0 hs (station.name, command) refl refl ran

run_step : (s : Script) (meaning : LineMeaning) (hs : List Happens) → IsRun s hs → IsRun (step_by s meaning).0 (hs ++ asked_of s meaning)
run_step s nothing hs ran = still s s hs refl (λ f. f) ran
run_step s (fails _) hs ran = still s s hs refl (λ f. f) ran
run_step s (sets_limits t e r c) hs ran = run_late s.opened s (limited_to s t e r c) hs refl ran (λ f. run_limited (are_limits t e r c) s t e r c hs ran)
run_step s (declares site name) hs ran = run_late s.opened s (declared_to s site name) hs refl ran (λ f. run_declared (is_past_plan s site) s site name hs f ran)
run_step s (sets_period site seconds) hs ran = run_late s.opened s (period_to s site seconds) hs refl ran (λ f. run_period (is_period seconds) s (site_number site s.sites) (lasting seconds) hs ran)
run_step s (sets_order site order) hs ran = run_late s.opened s (order_to s site order) hs refl ran (λ f. run_ordered (site_number site s.sites) s order hs ran)
run_step s (sets_settle site rule) hs ran = run_late s.opened s (settle_to s site rule) hs refl ran (λ f. run_settled (site_number site s.sites) s (settling rule) hs ran)
run_step s (tells nanos) hs ran = still s (record s { moment = nanos }) hs refl (λ f. f) ran
run_step s (sends name text) hs ran = run_sent (station_named name s.world) s text hs ran
run_step s (delivers name text) hs ran =
    subst (λ t. IsRun t (hs ++ sent_by (station_named name s.world) text s.moment)) (sym (delivered_state (station_named name s.world) s text)) (run_sent (station_named name s.world) s text hs ran)
run_step s (commands name command) hs ran = run_commanded (station_named name s.world) s command hs ran
run_step s (asks_energy name) hs ran = still s (record s { opened = true }) hs refl (λ f. absurd (false≢true (sym f))) ran
run_step s (asks_export name) hs ran = still s (record s { opened = true }) hs refl (λ f. absurd (false≢true (sym f))) ran
run_step s (asks_total name) hs ran = still s (record s { opened = true }) hs refl (λ f. absurd (false≢true (sym f))) ran
run_step s (asks_board site) hs ran = still s (record s { opened = true }) hs refl (λ f. absurd (false≢true (sym f))) ran
run_step s (lists what name tx) hs ran = still s (record s { opened = true }) hs refl (λ f. absurd (false≢true (sym f))) ran
run_step s (asks_meaning text) hs ran = still s s hs refl (λ f. f) ran
run_step s (marks word) hs ran = still s s hs refl (λ f. f) ran

run_lines : (s : Script) (lines : List Line) (hs : List Happens) → IsRun s hs → IsRun (script_after s lines) (hs ++ happened s lines)
run_lines s [] hs ran = subst (IsRun s) (sym (append-nil hs)) ran
run_lines s (line ∷ lines) hs ran =
    subst (IsRun (script_after s (line ∷ lines))) (append_assoc hs (asked_of s (line_meaning line)) (happened (line_step s line).0 lines))
    (run_lines (line_step s line).0 lines (hs ++ asked_of s (line_meaning line)) (run_step s (line_meaning line) hs ran))

pub worlds_are_runs : WorldsAreRuns
worlds_are_runs lines = (run_lines start lines [] (refl, λ f. refl)).0

-- ---- what is not accepted

-- a line that asks a command takes the step of just that
abbrev Asks : Script → Script → List ℕ → Command → Type 0
Asks s t name command = (t.world ≡ world_after s.world (name, command)) × KeepsSites s t

one_asked : (s : Script) (t : Script) (a b : Happens) → a ∷ [] ≡ b ∷ [] → t.world ≡ world_after s.world a → KeepsSites s t → Asks s t b.0 b.1
one_asked s t a b e world kept = let same : a ≡ b = cc e in (world ∙ ap (world_after s.world) same, kept)

asks_told : (meaning : Meaning) (station : Station) (s : Script) (name : List ℕ) (command : Command)
    → asked_by meaning station ≡ (name, command) ∷ [] → Asks s (by_meaning meaning station s).0 name command
asks_told (Event id request) station s name command e =
    one_asked s (by_meaning (Event id request) station s).0 (station.name, Deliver request.key request.event) (name, command) e refl
    (record { sites = refl; periods = refl; orders = refl })
asks_told (Ready reply) station s name command e = cc e
asks_told Silence station s name command e = cc e

asks_sent : (station : Option Station) (s : Script) (text name : List ℕ) (command : Command) → sent_by station text s.moment ≡ (name, command) ∷ [] → Asks s (sent_to station s text).0 name command
asks_sent None s text name command e = cc e
asks_sent (Some station) s text name command e = asks_told (message text s.moment) station s name command e

asks_commanded : (station : Option Station) (s : Script) (asked : Command) (name : List ℕ) (command : Command)
    → commanded_by station asked ≡ (name, command) ∷ [] → Asks s (commanded_to station s asked).0 name command
asks_commanded None s asked name command e = cc e
asks_commanded (Some station) s asked name command e =
    one_asked s (commanded_to (Some station) s asked).0 (station.name, asked) (name, command) e refl (record { sites = refl; periods = refl; orders = refl })

asks_step : (s : Script) (meaning : LineMeaning) (name : List ℕ) (command : Command) → asked_of s meaning ≡ (name, command) ∷ [] → Asks s (step_by s meaning).0 name command
asks_step s nothing name command e = cc e
asks_step s (fails _) name command e = cc e
asks_step s (sets_limits _ _ _ _) name command e = cc e
asks_step s (declares _ _) name command e = cc e
asks_step s (sets_period _ _) name command e = cc e
asks_step s (sets_order _ _) name command e = cc e
asks_step s (sets_settle _ _) name command e = cc e
asks_step s (tells _) name command e = cc e
asks_step s (sends at text) name command e = asks_sent (station_named at s.world) s text name command e
asks_step s (delivers at text) name command e =
    subst (λ t. Asks s t name command) (sym (delivered_state (station_named at s.world) s text)) (asks_sent (station_named at s.world) s text name command e)
asks_step s (commands at asked) name command e = asks_commanded (station_named at s.world) s asked name command e
asks_step s (asks_energy _) name command e = cc e
asks_step s (asks_export _) name command e = cc e
asks_step s (asks_total _) name command e = cc e
asks_step s (asks_board _) name command e = cc e
asks_step s (lists _ _ _) name command e = cc e
asks_step s (asks_meaning _) name command e = cc e
asks_step s (marks _) name command e = cc e

pub unaccepted_changes_nothing : UnacceptedChangesNothing
unaccepted_changes_nothing lines line name station command asks named none =
    let s = script_after start lines in
    let step = asks_step s (line_meaning line) name command asks in
    (step.0 ∙ same_world s.world name station command (kept_from_start lines).1 named none, step.1)

-- ---- deliveries in another order

delivers_by : (meaning : Meaning) (station : Station) → All (λ h. IsDelivery h.1) (asked_by meaning station)
delivers_by (Event id request) station = All-cons (λ h. IsDelivery h.1) (station.name, Deliver request.key request.event) [] tt (All-nil (λ h. IsDelivery h.1))
delivers_by (Ready reply) station = All-nil (λ h. IsDelivery h.1)
delivers_by Silence station = All-nil (λ h. IsDelivery h.1)

delivers_sent : (station : Option Station) (text : List ℕ) (moment : ℕ) → All (λ h. IsDelivery h.1) (sent_by station text moment)
delivers_sent None text moment = All-nil (λ h. IsDelivery h.1)
delivers_sent (Some station) text moment = delivers_by (message text moment) station

delivers_line : (s : Script) (meaning : LineMeaning) → IsNoOperation meaning → All (λ h. IsDelivery h.1) (asked_of s meaning)
delivers_line s nothing is = All-nil (λ h. IsDelivery h.1)
delivers_line s (fails _) is = All-nil (λ h. IsDelivery h.1)
delivers_line s (sets_limits _ _ _ _) is = All-nil (λ h. IsDelivery h.1)
delivers_line s (declares _ _) is = All-nil (λ h. IsDelivery h.1)
delivers_line s (sets_period _ _) is = All-nil (λ h. IsDelivery h.1)
delivers_line s (sets_order _ _) is = All-nil (λ h. IsDelivery h.1)
delivers_line s (sets_settle _ _) is = All-nil (λ h. IsDelivery h.1)
delivers_line s (tells _) is = All-nil (λ h. IsDelivery h.1)
delivers_line s (sends name text) is = delivers_sent (station_named name s.world) text s.moment
delivers_line s (delivers name text) is = delivers_sent (station_named name s.world) text s.moment
delivers_line s (commands _ _) is = absurd is
delivers_line s (asks_export _) is = All-nil (λ h. IsDelivery h.1)
delivers_line s (asks_energy _) is = All-nil (λ h. IsDelivery h.1)
delivers_line s (asks_total _) is = All-nil (λ h. IsDelivery h.1)
delivers_line s (asks_board _) is = All-nil (λ h. IsDelivery h.1)
delivers_line s (lists _ _ _) is = All-nil (λ h. IsDelivery h.1)
delivers_line s (asks_meaning _) is = All-nil (λ h. IsDelivery h.1)
delivers_line s (marks _) is = All-nil (λ h. IsDelivery h.1)

delivers_lines : (s : Script) (lines : List Line) → All (λ line. IsNoOperation (line_meaning line)) lines → All (λ h. IsDelivery h.1) (happened s lines)
delivers_lines s [] all = All-nil (λ h. IsDelivery h.1)
delivers_lines s (line ∷ lines) all =
    All-append (λ h. IsDelivery h.1) (asked_of s (line_meaning line)) (happened (line_step s line).0 lines) (delivers_line s (line_meaning line) (all 0 line (omega arith)))
    (delivers_lines (line_step s line).0 lines (λ k d lt. all (suc k) d (omega arith)))

pub order_changes_no_board : OrderChangesNoBoard
order_changes_no_board one other same line site says =
    let a = script_after start one in
    let b = script_after start other in
    let reordered : AreReordered (emptied a.world) (happened start one) (happened start other) = record {
      one_delivers = delivers_lines start one same.one_delivers;
      other_delivers = delivers_lines start other same.other_delivers;
      orders = same.deliveries;
    } in
    let world : a.world ≡ b.world =
    worlds_are_runs one ∙ reordered_runs (emptied a.world) (happened start one) (happened start other) reordered
    ∙ ap (λ w. run w (happened start other)) same.stations ∙ sym (worlds_are_runs other) in
    ap (λ m. (step_by a m).1) says
    ∙ (λ i. board_answer (record a { sites = same.sites i; periods = same.periods i; orders = same.orders i; world = world i }) site)
    ∙ sym (ap (λ m. (step_by b m).1) says)
