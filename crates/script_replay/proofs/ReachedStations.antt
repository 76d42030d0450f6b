-- What any lines keep of a script's stations.
use Rattle.std.{proofs.Common.{◌≡◌, ℕ, suc, ◌+◌, Bool, true, false, cond, List, [], ◌∷◌, ◌++◌, Option, None, Some, refl, sym, ap, subst, ◌∙◌, arith}, specs.Str.bytes_eq, proofs.lemmas.Slice.Eq.bytes_eq-Decides}
use Rattle.ledger_model.{specs.declared.answer.Answer.Answer, specs.declared.answer.Answer.TheVariants.{Accepted, Repeat, Refused}, specs.declared.command.Command.Command, specs.declared.command.Command.TheVariants.Deliver, specs.declared.order.Order.Order, specs.Admissible.IsAdmissible, specs.Content.Content, specs.Laws.IsAccepted, specs.Limits.Bounds, specs.Step.{Reached, answer, content_after, step}, specs.World.{Station, World, station_after, world_after}, proofs.ReachedContents.is_counted, specs.Periods.Periods}
use Rattle.transaction_event.{specs.Message.{Meaning, Event, Ready, Silence, message}, specs.Request.Request, proofs.AdmissibleRequests.each_delivery_is_admissible}
use Rattle.script_replay.{specs.Laws.{StationsAreReached, EnergyIsFromScratch, ExportIsFromScratch, ListsAreFromScratch, TotalsAreFromScratch, BoardsAreFromScratch}, proofs.AdmissibleLines.{IsFine, fine_line}}
use Rattle.script_lines.{specs.Lines.Line, specs.Texts.fault_line, specs.LineMeaning.{LineMeaning, nothing, fails, sets_limits, declares, sets_period, sets_order, sets_settle, tells, sends, delivers, commands, asks_energy, asks_export, asks_total, asks_board, lists, asks_meaning, marks, line_meaning}, specs.declared.script_line.LineFault.TheVariants.{DeclaredLate, PlanLimit, UnknownSite}}
use Rattle.script_ledgers.{proofs.Told.delivered_state, specs.Script.{Script, are_limits, by_meaning, commanded_to, declared_to, energy_answer, export_answer, is_among, is_past_plan, is_period, joined_by, lasting, limited_to, line_step, new_station, order_named, order_to, ordered_by, period_named, period_to, sent_to, settle_to, settled_by, settling, shown_site, site_number, start, station_named, stations_of, step_by, total_answer, script_after, list_answer}}
use Rattle.board_report.specs.Texts.{board_text}

-- ---- one ledger

reached_by : (limits : Bounds) (c : Content) (command : Command) (a : Answer) → a ≡ answer limits c command → IsAdmissible command → Reached limits c.changes c
    → Reached limits (content_after c command a).changes (content_after c command a)
reached_by limits c command (Accepted n) e is reached =
    let counted = is_counted limits c command (subst IsAccepted e tt) in
    let next : n ≡ suc c.changes = accepted_number n c.changes (e ∙ counted.next) in
    subst (λ k. Reached limits k (content_after c command (Accepted n))) (sym next)
    (c, command, (is, reached, ap (λ x. (content_after c command x, x)) (sym e) ∙ ap (λ k. (content_after c command (Accepted n), Accepted k)) next))
  where
    accepted_number : (m k : ℕ) → Accepted m ≡ Accepted (k + 1) → m ≡ suc k
    accepted_number m k same = let numbers : m ≡ k + 1 = cc in omega arith
reached_by limits c command Repeat e is reached = reached
reached_by limits c command (Refused why) e is reached = reached

reached_after : (limits : Bounds) (c : Content) (command : Command) → IsAdmissible command → Reached limits c.changes c → Reached limits (step limits c command).0.changes (step limits c command).0
reached_after limits c command is reached = reached_by limits c command (answer limits c command) refl is reached

-- ---- a world

-- each station of a world has a content that is reached
abbrev AreReached : World → Type 0
AreReached [] = Unit {0}
AreReached (s ∷ ss) = Reached s.limits s.content.changes s.content × AreReached ss

named_is_reached : (w : World) (name : List ℕ) (station : Station) → AreReached w → station_named name w ≡ Some station → Reached station.limits station.content.changes station.content
named_is_reached [] name station all e = cc e
named_is_reached (s ∷ ss) name station all e = at (bytes_eq name s.name) (λ f. named_is_reached ss name station all.1 f) e
  where
    at : (b : Bool) → (station_named name ss ≡ Some station → Reached station.limits station.content.changes station.content)
        → cond b (Some s) (station_named name ss) ≡ Some station → Reached station.limits station.content.changes station.content
    at true later f = let same : s ≡ station = cc f in subst (λ x. Reached x.limits x.content.changes x.content) same all.0
    at false later f = later f

reached_world : (w : World) (name : List ℕ) (command : Command) → IsAdmissible command → AreReached w → AreReached (world_after w (name, command))
reached_world [] name command is all = tt
reached_world (s ∷ ss) name command is all = (at (bytes_eq name s.name), reached_world ss name command is all.1)
  where
    at : (b : Bool) → let x = cond b (station_after s command) s in Reached x.limits x.content.changes x.content
    at true = reached_after s.limits s.content command is all.0
    at false = all.0

-- ---- names

named_by : (b : Bool) (s : Station) (o : Option Station) → cond b (Some s) o ≡ None → (b ≡ false) × (o ≡ None)
named_by true s o e = cc e
named_by false s o e = (refl, e)

-- no station of this name is here
not_named : (s : Station) (ss : World) (name : List ℕ) → station_named name (s ∷ ss) ≡ None → (bytes_eq name s.name ≡ false) × (station_named name ss ≡ None)
not_named s ss name none = named_by (bytes_eq name s.name) s (station_named name ss) none

none_named : (s : Station) (ss : World) (name : List ℕ) → bytes_eq name s.name ≡ false → station_named name ss ≡ None → station_named name (s ∷ ss) ≡ None
none_named s ss name apart none = ap (λ b. cond b (Some s) (station_named name ss)) apart ∙ none

-- no two stations of a world have one name
abbrev AreNamedOnce : World → Type 0
AreNamedOnce [] = Unit {0}
AreNamedOnce (s ∷ ss) = (station_named s.name ss ≡ None) × AreNamedOnce ss

same_name : (b : Bool) (s : Station) (command : Command) → (cond b (station_after s command) s).name ≡ s.name
same_name true s command = refl
same_name false s command = refl

-- a step keeps names
names_kept : (w : World) (name other : List ℕ) (command : Command) → station_named other w ≡ None → station_named other (world_after w (name, command)) ≡ None
names_kept [] name other command none = none
names_kept (s ∷ ss) name other command none =
    let p = not_named s ss other none in
    let t = cond (bytes_eq name s.name) (station_after s command) s in
    none_named t (world_after ss (name, command)) other (ap (bytes_eq other) (same_name (bytes_eq name s.name) s command) ∙ p.0) (names_kept ss name other command p.1)

once_world : (w : World) (name : List ℕ) (command : Command) → AreNamedOnce w → AreNamedOnce (world_after w (name, command))
once_world [] name command once = tt
once_world (s ∷ ss) name command once =
    (ap (λ n. station_named n (world_after ss (name, command))) (same_name (bytes_eq name s.name) s command) ∙ names_kept ss name s.name command once.0, once_world ss name command once.1)

differ_back : (s t : List ℕ) → bytes_eq s t ≡ false → bytes_eq t s ≡ false
differ_back s t apart = at (bytes_eq t s) refl
  where
    at : (b : Bool) → bytes_eq t s ≡ b → b ≡ false
    at true e = let is : bytes_eq s t ≡ true = (bytes_eq-Decides s t).1 (sym ((bytes_eq-Decides t s).0 e)) in cc
    at false e = refl

-- a station of a new name behind the others
named_behind : (w : World) (t : Station) (name : List ℕ) → station_named name w ≡ None → bytes_eq name t.name ≡ false → station_named name (w ++ t ∷ []) ≡ None
named_behind [] t name none apart = none_named t [] name apart refl
named_behind (s ∷ ss) t name none apart = let p = not_named s ss name none in none_named s (ss ++ t ∷ []) name p.0 (named_behind ss t name p.1 apart)

once_behind : (w : World) (t : Station) → AreNamedOnce w → station_named t.name w ≡ None → AreNamedOnce (w ++ t ∷ [])
once_behind [] t once none = (refl, tt)
once_behind (s ∷ ss) t once none =
    let p = not_named s ss t.name none in
    (named_behind ss t s.name once.0 (differ_back t.name s.name p.0), once_behind ss t once.1 p.1)

reached_behind : (w : World) (t : Station) → AreReached w → Reached t.limits t.content.changes t.content → AreReached (w ++ t ∷ [])
reached_behind [] t all is = (is, tt)
reached_behind (s ∷ ss) t all is = (all.0, reached_behind ss t all.1 is)

-- what lines keep: each content is reached, and names occur once
abbrev pub Kept : World → Type 0
Kept w = AreReached w × AreNamedOnce w

kept_world : (w : World) (name : List ℕ) (command : Command) → IsAdmissible command → Kept w → Kept (world_after w (name, command))
kept_world w name command is kept = (reached_world w name command is kept.0, once_world w name command kept.1)

-- ---- a line

kept_joined : (o : Option Station) (s : Script) (site name : List ℕ) → o ≡ station_named name s.world → Kept s.world → Kept (joined_by o s site name).0.world
kept_joined None s site name e kept = (reached_behind s.world (new_station s.limits site name) kept.0 refl, once_behind s.world (new_station s.limits site name) kept.1 (sym e))
kept_joined (Some _) s site name e kept = kept

kept_declared : (past : Bool) (s : Script) (site name : List ℕ) → Kept s.world → Kept (cond past (s, fault_line PlanLimit) (joined_by (station_named name s.world) s site name)).0.world
kept_declared true s site name kept = kept
kept_declared false s site name kept = kept_joined (station_named name s.world) s site name refl kept

kept_late : (late : Bool) (s : Script) (after : Script × List ℕ) → Kept s.world → Kept after.0.world → Kept (cond late (s, fault_line DeclaredLate) after).0.world
kept_late true s after kept then = kept
kept_late false s after kept then = then

kept_limited : (is : Bool) (s : Script) (t e r c : ℕ) → Kept s.world
    → Kept (cond {A = Script × List ℕ} is (record s { limits = record { transactions = t; events = e; readings = r; changes = c } }, []) (s, fault_line PlanLimit)).0.world
kept_limited true s t e r c kept = kept
kept_limited false s t e r c kept = kept

kept_settled : (o : Option ℕ) (s : Script) (change : Periods → Periods) → Kept s.world → Kept (settled_by o s change).0.world
kept_settled None s change kept = kept
kept_settled (Some number) s change kept = kept

kept_period : (is : Bool) (s : Script) (o : Option ℕ) (change : Periods → Periods) → Kept s.world → Kept (cond is (settled_by o s change) (s, fault_line PlanLimit)).0.world
kept_period true s o change kept = kept_settled o s change kept
kept_period false s o change kept = kept

kept_ordered : (o : Option ℕ) (s : Script) (order : Order) → Kept s.world → Kept (ordered_by o s order).0.world
kept_ordered None s order kept = kept
kept_ordered (Some number) s order kept = kept

kept_meaning : (meaning : Meaning) (station : Station) (s : Script) → ((id : List ℕ) (request : Request) → meaning ≡ Event id request → IsAdmissible (Deliver request.key request.event))
    → Kept s.world → Kept (by_meaning meaning station s).0.world
kept_meaning (Event id request) station s is kept = kept_world s.world station.name (Deliver request.key request.event) (is id request refl) kept
kept_meaning (Ready reply) station s is kept = kept
kept_meaning Silence station s is kept = kept

kept_sent : (station : Option Station) (s : Script) (text : List ℕ) → Kept s.world → Kept (sent_to station s text).0.world
kept_sent None s text kept = kept
kept_sent (Some station) s text kept = kept_meaning (message text s.moment) station s (each_delivery_is_admissible text s.moment) kept

kept_commanded : (station : Option Station) (s : Script) (command : Command) → IsAdmissible command → Kept s.world → Kept (commanded_to station s command).0.world
kept_commanded None s command is kept = kept
kept_commanded (Some station) s command is kept = kept_world s.world station.name command is kept

kept_step : (s : Script) (meaning : LineMeaning) → IsFine meaning → Kept s.world → Kept (step_by s meaning).0.world
kept_step s nothing fine kept = kept
kept_step s (fails _) fine kept = kept
kept_step s (sets_limits t e r c) fine kept = kept_late s.opened s (limited_to s t e r c) kept (kept_limited (are_limits t e r c) s t e r c kept)
kept_step s (declares site name) fine kept = kept_late s.opened s (declared_to s site name) kept (kept_declared (is_past_plan s site) s site name kept)
kept_step s (sets_period site seconds) fine kept = kept_late s.opened s (period_to s site seconds) kept (kept_period (is_period seconds) s (site_number site s.sites) (lasting seconds) kept)
kept_step s (sets_order site order) fine kept = kept_late s.opened s (order_to s site order) kept (kept_ordered (site_number site s.sites) s order kept)
kept_step s (sets_settle site rule) fine kept = kept_late s.opened s (settle_to s site rule) kept (kept_settled (site_number site s.sites) s (settling rule) kept)
kept_step s (tells _) fine kept = kept
kept_step s (sends name text) fine kept = kept_sent (station_named name s.world) s text kept
kept_step s (delivers name text) fine kept =
    subst (λ (t : Script). Kept t.world) (sym (delivered_state (station_named name s.world) s text)) (kept_sent (station_named name s.world) s text kept)
kept_step s (commands name command) fine kept = kept_commanded (station_named name s.world) s command fine kept
kept_step s (asks_energy name) fine kept = kept
kept_step s (asks_export name) fine kept = kept
kept_step s (asks_total name) fine kept = kept
kept_step s (asks_board site) fine kept = kept
kept_step s (lists what name tx) fine kept = kept
kept_step s (asks_meaning text) fine kept = kept
kept_step s (marks word) fine kept = kept

kept_after : (s : Script) (lines : List Line) → Kept s.world → Kept (script_after s lines).world
kept_after s [] kept = kept
kept_after s (line ∷ lines) kept = kept_after (line_step s line).0 lines (kept_step s (line_meaning line) (fine_line line) kept)

pub kept_from_start : (lines : List Line) → Kept (script_after start lines).world
kept_from_start lines = kept_after start lines (tt, tt)

-- ---- the laws

pub stations_are_reached : StationsAreReached
stations_are_reached lines name station e = named_is_reached (script_after start lines).world name station (kept_from_start lines).0 e

pub energy_is_from_scratch : EnergyIsFromScratch
energy_is_from_scratch lines line name station says e =
    let s = script_after start lines in
    ap (λ meaning. (step_by s meaning).1) says ∙ ap (energy_answer (order_named s)) e

pub export_is_from_scratch : ExportIsFromScratch
export_is_from_scratch lines line name station says e =
    let s = script_after start lines in
    ap (λ meaning. (step_by s meaning).1) says ∙ ap (export_answer (order_named s)) e

pub totals_are_from_scratch : TotalsAreFromScratch
totals_are_from_scratch lines line name station says e =
    let s = script_after start lines in
    ap (λ meaning. (step_by s meaning).1) says ∙ ap (total_answer (order_named s)) e

pub lists_are_from_scratch : ListsAreFromScratch
lists_are_from_scratch lines line what name tx station says e =
    let s = script_after start lines in
    ap (λ meaning. (step_by s meaning).1) says ∙ ap (list_answer (order_named s) (period_named s) what name tx) e

pub boards_are_from_scratch : BoardsAreFromScratch
boards_are_from_scratch lines line site says there =
    let s = script_after start lines in
    ap (λ meaning. (step_by s meaning).1) says ∙ shown (is_among site s.sites) there
  where
    text : List ℕ
    text = board_text (shown_site site (order_named (script_after start lines) site) (period_named (script_after start lines) site) (stations_of site (script_after start lines).world))

    shown : (b : Bool) → b ≡ true → cond b text (fault_line UnknownSite) ≡ text
    shown true is = refl
    shown false is = cc is

-- a step without an accepted change leaves the content
same_content : (c : Content) (command : Command) (a : Answer) → ¬ (IsAccepted a) → content_after c command a ≡ c
same_content c command (Accepted n) none = absurd (none tt)
same_content c command Repeat none = refl
same_content c command (Refused why) none = refl

-- a step on a name that no station has changes nothing
no_station : (w : World) (name : List ℕ) (command : Command) → station_named name w ≡ None → world_after w (name, command) ≡ w
no_station [] name command none = refl
no_station (s ∷ ss) name command none =
    let p = not_named s ss name none in
    ap (λ b. cond b (station_after s command) s ∷ world_after ss (name, command)) p.0 ∙ ap (λ l. s ∷ l) (no_station ss name command p.1)

pub same_world : (w : World) (name : List ℕ) (station : Station) (command : Command) → AreNamedOnce w → station_named name w ≡ Some station
    → ¬ (IsAccepted (answer station.limits station.content command)) → world_after w (name, command) ≡ w
same_world [] name station command once e none = refl
same_world (s ∷ ss) name station command once e none = found (bytes_eq name s.name) refl e (λ f. same_world ss name station command once.1 f none)
  where
    found : (b : Bool) → bytes_eq name s.name ≡ b → cond b (Some s) (station_named name ss) ≡ Some station → (station_named name ss ≡ Some station → world_after ss (name, command) ≡ ss)
        → cond b (station_after s command) s ∷ world_after ss (name, command) ≡ s ∷ ss
    found true is f later =
        let same : s ≡ station = cc f in
        let named : name ≡ s.name = (bytes_eq-Decides name s.name).0 is in
        ap (λ c. (record s { content = c }) ∷ world_after ss (name, command))
        (same_content s.content command (answer s.limits s.content command) (subst (λ x. ¬ (IsAccepted (answer x.limits x.content command))) (sym same) none))
        ∙ ap (λ l. s ∷ l) (no_station ss name command (ap (λ n. station_named n ss) named ∙ once.0))
    found false is f later = ap (λ l. s ∷ l) (later f)
