-- A line with a fault changes no plan, content or moment.
use Rattle.std.proofs.Common.{◌≡◌, ℕ, Bool, true, false, cond, List, [], ◌∷◌, Option, None, Some, refl, ap, arith}
use Rattle.ledger_model.{specs.declared.answer.Answer.Answer, specs.declared.answer.Answer.TheVariants.{Accepted, Repeat, Refused}, specs.declared.command.Command.Command, specs.declared.order.Order.Order, specs.World.Station, specs.Periods.Periods}
use Rattle.transaction_event.{specs.Message.{Meaning, Event, Ready, Silence, message}, specs.Reply.event_reply_bytes}
use Rattle.script_lines.{specs.declared.script_line.LineFault.LineFault, specs.declared.script_line.LineFault.TheVariants.{DeclaredLate, PlanLimit}, specs.Texts.{answer_text, delivered_line, ended_line, fault_line}, specs.LineMeaning.{LineMeaning, nothing, fails, sets_limits, declares, sets_period, sets_order, sets_settle, tells, sends, delivers, commands, asks_energy, asks_export, asks_total, asks_board, lists, asks_meaning, marks, line_meaning}}
use Rattle.script_replay.specs.Laws.{FaultsChangeNothing}
use Rattle.script_ledgers.specs.Script.{Script, are_limits, by_meaning, commanded_to, declared_to, delivered_to, is_past_plan, is_period, joined_by, lasting, limited_to, order_to, ordered_by, period_to, sent_to, settle_to, settled_by, settling, site_number, station_named, step_by, told_by}

-- nothing has changed but whether the ledgers are opened
abbrev Same : Script → Script × List ℕ → Type 0
Same s after = after.0 ≡ record s { opened = after.0.opened }

-- where the text of a step is a fault, nothing has changed
abbrev Holds : Script → Script × List ℕ → Type 0
Holds s after = (fault : LineFault) → after.1 ≡ fault_line fault → Same s after

-- no fault has an empty text
some_text : (fault : LineFault) → [] ≡ fault_line fault → ⊥
some_text fault e = cc e

-- the first byte of a text
abbrev first : List ℕ → ℕ
first [] = 0
first (b ∷ bs) = b

-- texts that begin with other letters than `f` are no faults
not_one_head : (b : ℕ) (xs ys : List ℕ) → b ∷ xs ≡ 102 ∷ ys → b ≡ 102
not_one_head b xs ys e = ap first e

late : (is : Bool) (s : Script) (after : Script × List ℕ) → Holds s after → Holds s (cond is (s, fault_line DeclaredLate) after)
late true s after holds fault e = refl
late false s after holds fault e = holds fault e

limited : (is : Bool) (s : Script) (t e r c : ℕ) → Holds s (cond is (record s { limits = record { transactions = t; events = e; readings = r; changes = c } }, []) (s, fault_line PlanLimit))
limited true s t e r c fault is = absurd (some_text fault is)
limited false s t e r c fault is = refl

joined : (o : Option Station) (s : Script) (site name : List ℕ) → Holds s (joined_by o s site name)
joined None s site name fault e = absurd (some_text fault e)
joined (Some _) s site name fault e = refl

declared : (past : Bool) (s : Script) (site name : List ℕ) → Holds s (cond past (s, fault_line PlanLimit) (joined_by (station_named name s.world) s site name))
declared true s site name fault e = refl
declared false s site name fault e = joined (station_named name s.world) s site name fault e

settled : (o : Option ℕ) (s : Script) (change : Periods → Periods) → Holds s (settled_by o s change)
settled None s change fault e = refl
settled (Some number) s change fault e = absurd (some_text fault e)

by_period : (is : Bool) (s : Script) (o : Option ℕ) (change : Periods → Periods) → Holds s (cond is (settled_by o s change) (s, fault_line PlanLimit))
by_period true s o change fault e = settled o s change fault e
by_period false s o change fault e = refl

ordered : (o : Option ℕ) (s : Script) (order : Order) → Holds s (ordered_by o s order)
ordered None s order fault e = refl
ordered (Some number) s order fault e = absurd (some_text fault e)

-- no answer to a command is a fault's text
some_answer : (answer : Answer) (fault : LineFault) → ended_line (answer_text answer) ≡ fault_line fault → ⊥
some_answer (Accepted n) fault e = let same : 97 ≡ 102 = not_one_head 97 _ _ e in omega (arith, same)
some_answer Repeat fault e = let same : 114 ≡ 102 = not_one_head 114 _ _ e in omega (arith, same)
some_answer (Refused why) fault e = let same : 114 ≡ 102 = not_one_head 114 _ _ e in omega (arith, same)

commanded : (station : Option Station) (s : Script) (command : Command) → Holds s (commanded_to station s command)
commanded None s command fault e = refl
commanded (Some station) s command fault e = absurd (some_answer _ fault e)

-- no reply to an event is a fault's text
some_reply : (id : List ℕ) (token : Bool) (answer : Answer) (fault : LineFault) → ended_line (event_reply_bytes id token answer) ≡ fault_line fault → ⊥
some_reply id token (Accepted n) fault e = let same : 91 ≡ 102 = not_one_head 91 _ _ e in omega (arith, same)
some_reply id token Repeat fault e = let same : 91 ≡ 102 = not_one_head 91 _ _ e in omega (arith, same)
some_reply id token (Refused why) fault e = let same : 91 ≡ 102 = not_one_head 91 _ _ e in omega (arith, same)

meant : (meaning : Meaning) (station : Station) (s : Script) → Holds s (by_meaning meaning station s)
meant (Event id request) station s fault e = absurd (some_reply id request.token _ fault e)
meant (Ready reply) station s fault e = refl
meant Silence station s fault e = refl

-- no text of a delivery is a fault's text
some_delivered : (answer : Answer) (reply : List ℕ) (fault : LineFault) → delivered_line answer reply ≡ fault_line fault → ⊥
some_delivered (Accepted n) reply fault e = let same : 97 ≡ 102 = not_one_head 97 _ _ e in omega (arith, same)
some_delivered Repeat reply fault e = let same : 114 ≡ 102 = not_one_head 114 _ _ e in omega (arith, same)
some_delivered (Refused why) reply fault e = let same : 114 ≡ 102 = not_one_head 114 _ _ e in omega (arith, same)

told : (meaning : Meaning) (station : Station) (s : Script) → Holds s (told_by meaning station s)
told (Event id request) station s fault e = absurd (some_delivered _ _ fault e)
told (Ready reply) station s fault e = refl
told Silence station s fault e = refl

delivered : (station : Option Station) (s : Script) (text : List ℕ) → Holds s (delivered_to station s text)
delivered None s text fault e = refl
delivered (Some station) s text fault e = told (message text s.moment) station s fault e

sent_by : (station : Option Station) (s : Script) (text : List ℕ) → Holds s (sent_to station s text)
sent_by None s text fault e = refl
sent_by (Some station) s text fault e = meant (message text s.moment) station s fault e

steps : (s : Script) (meaning : LineMeaning) → Holds s (step_by s meaning)
steps s nothing fault e = refl
steps s (fails _) fault e = refl
steps s (sets_limits t n r c) fault e = late s.opened s (limited_to s t n r c) (limited (are_limits t n r c) s t n r c) fault e
steps s (declares site name) fault e = late s.opened s (declared_to s site name) (declared (is_past_plan s site) s site name) fault e
steps s (sets_period site seconds) fault e = late s.opened s (period_to s site seconds) (by_period (is_period seconds) s (site_number site s.sites) (lasting seconds)) fault e
steps s (sets_order site order) fault e = late s.opened s (order_to s site order) (ordered (site_number site s.sites) s order) fault e
steps s (sets_settle site rule) fault e = late s.opened s (settle_to s site rule) (settled (site_number site s.sites) s (settling rule)) fault e
steps s (tells nanos) fault e = absurd (some_text fault e)
steps s (sends name text) fault e = sent_by (station_named name s.world) s text fault e
steps s (delivers name text) fault e = delivered (station_named name s.world) s text fault e
steps s (commands name command) fault e = commanded (station_named name s.world) s command fault e
steps s (asks_energy name) fault e = refl
steps s (asks_export name) fault e = refl
steps s (asks_total name) fault e = refl
steps s (asks_board site) fault e = refl
steps s (lists what name tx) fault e = refl
steps s (asks_meaning text) fault e = refl
steps s (marks word) fault e = refl

pub faults_change_nothing : FaultsChangeNothing
faults_change_nothing s line fault e = steps s (line_meaning line) fault e
