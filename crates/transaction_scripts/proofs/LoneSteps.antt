-- The lines of a script that are about one transaction, step by step.
use Rattle.std.{proofs.Common.{◌≡◌, ℕ, ◌+◌, Bool, true, false, cond, ◌&&◌, ◌||◌, not, List, [], ◌∷◌, ◌++◌, Option, None, Some, map, length, nat_le, nat_lt, refl, sym, ap, subst, ◌∙◌, bytes_eq, arith}, specs.List.flat_map, proofs.lemmas.Bool.{and_parts, false≢true}, proofs.lemmas.List.{length-map, map-append}}
use Rattle.ledger_model.{specs.Admissible.key_of, specs.Board.board_by, specs.ByDirection.in_each, specs.Content.{Entry, entries, transactions_of}, specs.declared.reading.Direction.Direction, specs.declared.reading.Direction.TheVariants.{Import, Export}, specs.Deltas.own_events, specs.Energy.{energy_over, followed}, specs.Event.{MeterReading, toward}, specs.InTime.in_order, specs.declared.answer.Answer.Answer, specs.declared.answer.Answer.TheVariants.{Accepted, Repeat, Refused}, specs.declared.command.Command.Command, specs.declared.command.Command.TheVariants.Deliver, specs.declared.order.Order.Order, specs.Limits.Bounds, specs.Periods.Periods, specs.Ranges.{most_plan_readings, most_sites, most_stations}, specs.Step.answer, specs.World.{Station, world_after}, proofs.SumLemmas.sum_by-map, proofs.SumsByTransaction.{one_text, same_text}}
use Rattle.event_chain.specs.EventLines.{line_of}
use Rattle.reading_index.specs.declared.placed.PlacedReading.{PlacedReading}
use Rattle.station_ledger.specs.Listing.{listing_by, placed}
use Rattle.script_ledgers.specs.Script.{Script, are_limits, by_meaning, commanded_to, declared_to, delivered_to, asked_line, told_by, is_past_plan, is_period, joined_by, lasting, list_answer, listed, order_named, period_named, limited_to, line_step, new_station, order_to, ordered_by, period_to, script_after, sent_to, settle_to, settled_by, settling, site_number, sites_with, start, station_named, step_by}
use Rattle.script_lines.{specs.declared.script_line.TxList.TxList, specs.declared.script_line.LineFault.TheVariants.{DeclaredLate, PlanLimit}, specs.LineMeaning.{LineMeaning, nothing, fails, sets_limits, declares, sets_period, sets_order, sets_settle, tells, sends, delivers, commands, asks_energy, asks_export, asks_total, asks_board, lists, asks_meaning, marks, line_meaning}, specs.Lines.Line, specs.Texts.{answer_text, delivered_line, ended_line, fault_line}}
use Rattle.transaction_event.{specs.Message.{Event, Meaning, Ready, Silence, message}, specs.Reply.event_reply_bytes}
use Rattle.transaction_laws.{specs.Alone.{alone, changes_after, counted_after, is_by_limit, belongs_to}, specs.BoardSums.sum_of_boards, specs.Transcript.is_own, proofs.AloneEvents.entries_alone, proofs.LoneBoards.{content_board, map_same}, proofs.LoneEntries.{live_of_own, own_twice}, proofs.LoneRuns.both_true, proofs.StepLemmas.{enough_itself, own_step}}
use Rattle.transaction_scripts.{specs.LoneScripts.{IsAloneAfter, board_at, command_text, count_after, count_after_command, count_after_message, delivered_text, is_own_command, is_own_message, line_texts, lone_boards, lone_count, lone_lines, lone_text, lone_texts, only, stays}, proofs.LoneWorlds.{AreFew, NamedOnce, few_after, few_own, name_found, named_only, names, names_after, none_among, once_more, only_new, only_own, only_some, own_world, skip_other, skip_own}}

true_only : (b : Bool) → not b ≡ true → b ≡ false
true_only true h = absurd (false≢true h)
true_only false h = refl

false_only : (b : Bool) → not b ≡ false → b ≡ true
false_only true h = refl
false_only false h = absurd (false≢true (sym h))

-- the reply to an event has no count
pub no_count : (id : List ℕ) (token : Bool) (n : ℕ) (a : Answer) → event_reply_bytes id token (counted_after n a) ≡ event_reply_bytes id token a
no_count id token n (Accepted m) = refl
no_count id token n Repeat = refl
no_count id token n (Refused why) = refl

module _ (name tx : List ℕ) where
  -- the lists of a transaction alone
  pub listing_own : (order : Order) (period : Periods) (es : List Entry) → listing_by order period tx (own_events tx es) ≡ listing_by order period tx es
  listing_own order period es =
      let live = live_of_own tx es in
      let energy = λ (l : List Entry). in_each (λ d. energy_over (followed (in_order order (λ (r : MeterReading). r.moment) (flat_map (λ (e : Entry). toward d e.1.event.readings) l)))) in
      let there = λ (d : Direction) (l : List Entry). in_order order (λ (p : PlacedReading). p.reading.moment) (flat_map (placed d) l) in
      λ i. record {
        order = order;
        period = period;
        events = map (λ (e : Entry). line_of e.0.seq e.1) (own_twice tx es i);
        energy = energy (live i);
        imported = there Import (live i);
        exported = there Export (live i);
      }

  -- the script with nothing but the transaction
  abbrev loned : ℕ → Bool → Script → Script
  loned n o s = record { limits = s.limits; sites = s.sites; periods = s.periods; orders = s.orders; world = map (only name tx n) s.world; opened = o; moment = s.moment }

  pub record Follows (n : ℕ) (s lone : Script) : Type 0 where
    pub o : Bool
    pub is : lone ≡ loned n o s
    pub once : NamedOnce name (names s.world)
    pub few : AreFew name tx n s.world
    pub early : s.opened ≡ false → (o ≡ false) × (n ≡ 0)

  -- before the ledgers are opened
  fresh : (s : Script) → NamedOnce name (names s.world) → Follows 0 s (loned 0 false s)
  fresh s once = record { o = false; is = refl; once = once; few = λ st e. omega arith; early = λ f. (refl, refl) }

  -- the ledgers are opened, and nothing else
  opens : (n : ℕ) (s lone : Script) → Follows n s lone → Follows n (record s { opened = true }) lone
  opens n s lone f = record { o = f.o; is = f.is; once = f.once; few = f.few; early = λ closed. absurd (false≢true (sym closed)) }

  -- a command that does not belong to the transaction
  skips : (n : ℕ) (s lone : Script) (x : List ℕ) (station : Station) (command : Command) → station_named x s.world ≡ Some station → is_own_command name tx (Some station) command ≡ false
      → Follows n s lone → Follows n (record s { opened = true; world = world_after s.world (station.name, command) }) lone
  skips n s lone x station command found refused f =
      let h : List ℕ × Command = (station.name, command) in
      record {
        o = f.o;
        is = f.is ∙ ap (λ w. record (loned n f.o s) { world = w }) (sym (by_case (bytes_eq name station.name) refl refused));
        once = subst (NamedOnce name) (sym (names_after s.world h)) f.once;
        few = few_after name tx n s.world h f.few;
        early = λ closed. absurd (false≢true (sym closed));
      }
    where
      by_case : (b : Bool) → bytes_eq name station.name ≡ b → (b && is_own tx (command, answer station.limits station.content command)) ≡ false
          → map (only name tx n) (world_after s.world (station.name, command)) ≡ map (only name tx n) s.world
      by_case true own refused =
          let same : name ≡ station.name = one_text name station.name own in
          let found_name : station_named name s.world ≡ Some station = subst (λ y. station_named y s.world ≡ Some station) (name_found x s.world station found ∙ sym same) found in
          subst (λ y. map (only name tx n) (world_after s.world (y, command)) ≡ map (only name tx n) s.world) same (skip_own name tx n command station refused s.world f.once found_name)
      by_case false other refused = skip_other name tx n station.name command other s.world

  -- a line that goes leaves the transaction as it was
  gone_message : (n : ℕ) (s lone : Script) (x : List ℕ) (station : Station) (m : Meaning) → station_named x s.world ≡ Some station → is_own_message name tx (Some station) m ≡ false → Follows n s lone
      → Follows n (by_meaning m station s).0 lone
  gone_message n s lone x station (Event id request) found refused f = skips n s lone x station (Deliver request.key request.event) found refused f
  gone_message n s lone x station (Ready reply) found refused f = opens n s lone f
  gone_message n s lone x station Silence found refused f = opens n s lone f

  gone_sent : (n : ℕ) (s lone : Script) (x text : List ℕ) (found : Option Station) → station_named x s.world ≡ found → is_own_message name tx found (message text s.moment) ≡ false → Follows n s lone
      → Follows n (sent_to found s text).0 lone
  gone_sent n s lone x text None e refused f = opens n s lone f
  gone_sent n s lone x text (Some station) e refused f = gone_message n s lone x station (message text s.moment) e refused f

  -- the same for a line that writes what becomes of a message, which leaves the same
  same_left : (m : Meaning) (station : Station) (s : Script) → (told_by m station s).0 ≡ (by_meaning m station s).0
  same_left (Event id request) station s = refl
  same_left (Ready reply) station s = refl
  same_left Silence station s = refl

  pub same_after : (found : Option Station) (s : Script) (text : List ℕ) → (delivered_to found s text).0 ≡ (sent_to found s text).0
  same_after None s text = refl
  same_after (Some station) s text = same_left (message text s.moment) station s

  gone_command : (n : ℕ) (s lone : Script) (x : List ℕ) (command : Command) (found : Option Station) → station_named x s.world ≡ found → is_own_command name tx found command ≡ false → Follows n s lone
      → Follows n (commanded_to found s command).0 lone
  gone_command n s lone x command None e refused f = opens n s lone f
  gone_command n s lone x command (Some station) e refused f = skips n s lone x station command e refused f

  gone_late : (n : ℕ) (s lone : Script) (then : Script × List ℕ) → not s.opened ≡ false → Follows n s lone → Follows n (cond s.opened (s, fault_line DeclaredLate) then).0 lone
  gone_late n s lone then h f = subst (λ b. Follows n (cond {A = Script × List ℕ} b (s, fault_line DeclaredLate) then).0 lone) (sym (false_only s.opened h)) f

  gone : (n : ℕ) (s lone : Script) (meaning : LineMeaning) → stays name tx s meaning ≡ false → Follows n s lone → Follows n (step_by s meaning).0 lone
  gone n s lone nothing h f = f
  gone n s lone (fails _) h f = f
  gone n s lone (sets_limits t e r c) h f = gone_late n s lone (limited_to s t e r c) h f
  gone n s lone (declares site new) h f = gone_late n s lone (declared_to s site new) h f
  gone n s lone (sets_period site seconds) h f = gone_late n s lone (period_to s site seconds) h f
  gone n s lone (sets_order site order) h f = gone_late n s lone (order_to s site order) h f
  gone n s lone (sets_settle site rule) h f = gone_late n s lone (settle_to s site rule) h f
  gone n s lone (tells nanos) h f = absurd (false≢true (sym h))
  gone n s lone (sends x text) h f = gone_sent n s lone x text (station_named x s.world) refl h f
  gone n s lone (delivers x text) h f = subst (λ l. Follows n l lone) (sym (same_after (station_named x s.world) s text)) (gone_sent n s lone x text (station_named x s.world) refl h f)
  gone n s lone (commands x command) h f = gone_command n s lone x command (station_named x s.world) refl h f
  gone n s lone (asks_energy _) h f = opens n s lone f
  gone n s lone (asks_export _) h f = opens n s lone f
  gone n s lone (asks_total _) h f = opens n s lone f
  gone n s lone (asks_board _) h f = opens n s lone f
  gone n s lone (lists what x id) h f = opens n s lone f
  gone n s lone (asks_meaning _) h f = absurd (false≢true (sym h))
  gone n s lone (marks _) h f = f

  -- what the second script does with a line that stays: it writes this text, and so many changes of the transaction were
  -- counted then
  abbrev AreAlike : ℕ → List ℕ → Script × List ℕ → Script × List ℕ → Type 0
  AreAlike n text p q = (q.1 ≡ text) × Follows n p.0 q.0

  -- what both scripts do with a line that declares the plan
  abbrev AreBoth : Script × List ℕ → Script × List ℕ → Type 0
  AreBoth p q = (q.1 ≡ p.1) × Follows 0 p.0 q.0

  both_limited : (b : Bool) (s : Script) (limits : Bounds) → NamedOnce name (names s.world)
      → AreBoth (cond b (record s { limits = limits }, []) (s, fault_line PlanLimit)) (cond b (record (loned 0 false s) { limits = limits }, []) (loned 0 false s, fault_line PlanLimit))
  both_limited true s limits once = (refl, fresh (record s { limits = limits }) once)
  both_limited false s limits once = (refl, fresh s once)

  both_settled : (o : Option ℕ) (s : Script) (change : Periods → Periods) → NamedOnce name (names s.world) → AreBoth (settled_by o s change) (settled_by o (loned 0 false s) change)
  both_settled None s change once = (refl, fresh s once)
  both_settled (Some number) s change once = (refl, fresh (settled_by (Some number) s change).0 once)

  both_period : (b : Bool) (o : Option ℕ) (s : Script) (change : Periods → Periods) → NamedOnce name (names s.world)
      → AreBoth (cond b (settled_by o s change) (s, fault_line PlanLimit)) (cond b (settled_by o (loned 0 false s) change) (loned 0 false s, fault_line PlanLimit))
  both_period true o s change once = both_settled o s change once
  both_period false o s change once = (refl, fresh s once)

  both_ordered : (o : Option ℕ) (s : Script) (order : Order) → NamedOnce name (names s.world) → AreBoth (ordered_by o s order) (ordered_by o (loned 0 false s) order)
  both_ordered None s order once = (refl, fresh s once)
  both_ordered (Some number) s order once = (refl, fresh (ordered_by (Some number) s order).0 once)

  both_joined : (found : Option Station) (s : Script) (site new : List ℕ) → station_named new s.world ≡ found → NamedOnce name (names s.world)
      → AreBoth (joined_by found s site new) (joined_by (only_some name tx 0 found) (loned 0 false s) site new)
  both_joined None s site new e once =
      let t = (joined_by None s site new).0 in
      let all : map (only name tx 0) s.world ++ new_station s.limits site new ∷ [] ≡ map (only name tx 0) t.world =
      ap (λ x. map (only name tx 0) s.world ++ x ∷ []) (sym (only_new name tx s.limits site new)) ∙ sym (map-append (only name tx 0) s.world (new_station s.limits site new ∷ [])) in
      let twice : NamedOnce name (names t.world) =
      subst (NamedOnce name) (sym (map-append (λ (x : Station). x.name) s.world (new_station s.limits site new ∷ []))) (once_more name new (names s.world) (none_among new s.world e) once) in
      (refl, record { o = false; is = ap (λ w. record (loned 0 false t) { world = w }) all; once = twice; few = λ st e. omega arith; early = λ closed. (refl, refl) })
  both_joined (Some station) s site new e once = (refl, fresh s once)

  past_alike : (s : Script) (site : List ℕ) → is_past_plan (loned 0 false s) site ≡ is_past_plan s site
  past_alike s site =
      let size = sum_by-map (λ (x : Station). x.limits.readings) (only name tx 0) s.world in
      λ i. nat_le most_stations (length-map s.world (only name tx 0) i) || (nat_lt most_plan_readings (size i + s.limits.readings) || nat_lt most_sites (length (sites_with site s.sites)))

  both_declared : (s : Script) (site new : List ℕ) → NamedOnce name (names s.world) → AreBoth (declared_to s site new) (declared_to (loned 0 false s) site new)
  both_declared s site new once =
      let told = λ (b : Bool) (o : Option Station). cond {A = Script × List ℕ} b (loned 0 false s, fault_line PlanLimit) (joined_by o (loned 0 false s) site new) in
      subst (λ b. AreBoth (declared_to s site new) (told b (station_named new (map (only name tx 0) s.world)))) (sym (past_alike s site))
      (subst (λ o. AreBoth (declared_to s site new) (told (is_past_plan s site) o)) (sym (named_only name tx 0 new s.world))
      (by_case (is_past_plan s site)))
    where
      by_case : (b : Bool)
          → AreBoth (cond b (s, fault_line PlanLimit) (joined_by (station_named new s.world) s site new))
          (cond b (loned 0 false s, fault_line PlanLimit) (joined_by (only_some name tx 0 (station_named new s.world)) (loned 0 false s) site new))
      by_case true = (refl, fresh s once)
      by_case false = both_joined (station_named new s.world) s site new refl once

  -- what declares the plan, before the ledgers are opened
  both_early : (n : ℕ) (s lone : Script) (then : Script → Script × List ℕ) → not s.opened ≡ true → Follows n s lone → AreBoth (then s) (then (loned 0 false s))
      → AreAlike n (cond s.opened (s, fault_line DeclaredLate) (then s)).1 (cond s.opened (s, fault_line DeclaredLate) (then s)) (cond lone.opened (lone, fault_line DeclaredLate) (then lone))
  both_early n s lone then h f both =
      let closed = true_only s.opened h in
      let early = f.early closed in
      let is : loned 0 false s ≡ lone = sym (f.is ∙ (λ i. loned (early.1 i) (early.0 i) s)) in
      let late : Script → Script × List ℕ = λ x. (x, fault_line DeclaredLate) in
      let alike : AreAlike n (then s).1 (then s) (then (loned 0 false s)) = (both.0, subst (λ m. Follows m (then s).0 (then (loned 0 false s)).0) (sym early.1) both.1) in
      subst (λ l. AreAlike n (cond s.opened (late s) (then s)).1 (cond s.opened (late s) (then s)) (cond l.opened (late l) (then l))) is
      (subst (λ b. AreAlike n (cond b (late s) (then s)).1 (cond b (late s) (then s)) (then (loned 0 false s))) (sym closed) alike)

  -- a command of the transaction
  record OwnStep (s : Script) (station : Station) (command : Command) (n : ℕ) (o : Bool) : Type 0 where
    text : answer station.limits (only name tx n station).content command ≡ counted_after n (answer station.limits station.content command)
    follows : Follows (changes_after n (answer station.limits station.content command)) (record s { opened = true; world = world_after s.world (station.name, command) })
        (record (loned n o s) { opened = true; world = world_after (map (only name tx n) s.world) (station.name, command) })

  own_one : (s : Script) (x : List ℕ) (station : Station) (command : Command) (n : ℕ) (o : Bool) → station_named x s.world ≡ Some station → is_own_command name tx (Some station) command ≡ true
      → NamedOnce name (names s.world) → AreFew name tx n s.world → OwnStep s station command n o
  own_one s x station command n o found own once few =
      let parts = and_parts (bytes_eq name station.name) (is_own tx (command, answer station.limits station.content command)) own in
      let same : name ≡ station.name = one_text name station.name parts.0 in
      let found_name : station_named name s.world ≡ Some station = subst (λ y. station_named y s.world ≡ Some station) (name_found x s.world station found ∙ sym same) found in
      let line = both_true (belongs_to tx (key_of command)) (is_by_limit (answer station.limits station.content command)) parts.1 in
      let one = own_step station.limits station.limits (enough_itself station.limits) station.content tx n (few station found_name) command line.0 line.1 in
      let m = changes_after n (answer station.limits station.content command) in
      let h : List ℕ × Command = (station.name, command) in
      record {
        text = ap (λ (t : Station). answer station.limits t.content command) (only_own name tx n station parts.0) ∙ one.answer;
        follows = record {
          o = true;
          is = ap (λ w. record (loned n o s) { opened = true; world = w })
              (subst (λ y. world_after (map (only name tx n) s.world) (y, command) ≡ map (only name tx m) (world_after s.world (y, command))) same
              (sym (own_world name tx n command station one s.world once found_name)));
          once = subst (NamedOnce name) (sym (names_after s.world h)) once;
          few = subst (λ y. AreFew name tx m (world_after s.world (y, command))) same (few_own name tx m s.world command station found_name one.changes);
          early = λ closed. absurd (false≢true (sym closed));
        };
      }

  -- a message of the transaction, by either line
  both_message : (s : Script) (n : ℕ) (o : Bool) (x : List ℕ) (station : Station) (m : Meaning) → station_named x s.world ≡ Some station → is_own_message name tx (Some station) m ≡ true
      → NamedOnce name (names s.world) → AreFew name tx n s.world
      → AreAlike (count_after_message n (Some station) m) (by_meaning m station s).1 (by_meaning m station s) (by_meaning m (only name tx n station) (loned n o s))
  both_message s n o x station (Event id request) found own once few =
      let one = own_one s x station (Deliver request.key request.event) n o found own once few in
      let same = no_count id request.token n (answer station.limits station.content (Deliver request.key request.event)) in
      (ap (λ a. ended_line (event_reply_bytes id request.token a)) one.text ∙ ap ended_line same, one.follows)
  both_message s n o x station (Ready reply) found own once few = absurd (false≢true own)
  both_message s n o x station Silence found own once few = absurd (false≢true own)

  both_told : (s : Script) (n : ℕ) (o : Bool) (x : List ℕ) (station : Station) (m : Meaning) → station_named x s.world ≡ Some station → is_own_message name tx (Some station) m ≡ true
      → NamedOnce name (names s.world) → AreFew name tx n s.world
      → AreAlike (count_after_message n (Some station) m) (delivered_text n (Some station) m) (told_by m station s) (told_by m (only name tx n station) (loned n o s))
  both_told s n o x station (Event id request) found own once few =
      let one = own_one s x station (Deliver request.key request.event) n o found own once few in
      let a = answer station.limits station.content (Deliver request.key request.event) in
      (ap (λ b. delivered_line b (event_reply_bytes id request.token b)) one.text ∙ ap (delivered_line (counted_after n a)) (no_count id request.token n a), one.follows)
  both_told s n o x station (Ready reply) found own once few = absurd (false≢true own)
  both_told s n o x station Silence found own once few = absurd (false≢true own)

  none_there : (m : Meaning) → is_own_message name tx None m ≡ true → ⊥
  none_there (Event id request) h = false≢true h
  none_there (Ready reply) h = false≢true h
  none_there Silence h = false≢true h

  both_sent : (s : Script) (n : ℕ) (o : Bool) (x text : List ℕ) (found : Option Station) → station_named x s.world ≡ found → is_own_message name tx found (message text s.moment) ≡ true
      → NamedOnce name (names s.world) → AreFew name tx n s.world
      → AreAlike (count_after_message n found (message text s.moment)) (sent_to found s text).1 (sent_to found s text) (sent_to (only_some name tx n found) (loned n o s) text)
  both_sent s n o x text None e own once few = absurd (none_there (message text s.moment) own)
  both_sent s n o x text (Some station) e own once few = both_message s n o x station (message text s.moment) e own once few

  both_delivered : (s : Script) (n : ℕ) (o : Bool) (x text : List ℕ) (found : Option Station) → station_named x s.world ≡ found → is_own_message name tx found (message text s.moment) ≡ true
      → NamedOnce name (names s.world) → AreFew name tx n s.world
      → AreAlike (count_after_message n found (message text s.moment)) (delivered_text n found (message text s.moment)) (delivered_to found s text) (delivered_to (only_some name tx n found) (loned n o s) text)
  both_delivered s n o x text None e own once few = absurd (none_there (message text s.moment) own)
  both_delivered s n o x text (Some station) e own once few = both_told s n o x station (message text s.moment) e own once few

  both_command : (s : Script) (n : ℕ) (o : Bool) (x : List ℕ) (command : Command) (found : Option Station) → station_named x s.world ≡ found → is_own_command name tx found command ≡ true
      → NamedOnce name (names s.world) → AreFew name tx n s.world
      → AreAlike (count_after_command n found command) (command_text n found command) (commanded_to found s command) (commanded_to (only_some name tx n found) (loned n o s) command)
  both_command s n o x command None e own once few = absurd (false≢true own)
  both_command s n o x command (Some station) e own once few =
      let one = own_one s x station command n o e own once few in (ap (λ a. ended_line (answer_text a)) one.text, one.follows)

  -- the lists of the transaction
  both_lists : (s : Script) (what : TxList) (n : ℕ) (x : List ℕ) → name ≡ x → (found : Option Station) → station_named x s.world ≡ found
      → list_answer (order_named s) (period_named s) what x tx (only_some name tx n found) ≡ list_answer (order_named s) (period_named s) what x tx found
  both_lists s what n x own None e = refl
  both_lists s what n x own (Some station) e =
      let is_name : bytes_eq name station.name ≡ true = subst (λ y. bytes_eq name y ≡ true) (own ∙ name_found x s.world station e) (same_text name) in
      let order = order_named s station.site in
      let period = period_named s station.site in
      ap (λ (t : Station). listed what x tx (listing_by order period tx (entries t.content))) (only_own name tx n station is_name)
      ∙ ap (λ es. listed what x tx (listing_by order period tx es)) (entries_alone tx station.content.events)
      ∙ ap (listed what x tx) (listing_own order period (entries station.content))

  stay : (n : ℕ) (s lone : Script) (meaning : LineMeaning) → stays name tx s meaning ≡ true → Follows n s lone
      → AreAlike (count_after n s meaning) (lone_text n s meaning) (step_by s meaning) (step_by lone meaning)
  stay n s lone nothing h f = absurd (false≢true h)
  stay n s lone (fails _) h f = absurd (false≢true h)
  stay n s lone (sets_limits t e r c) h f =
      both_early n s lone (λ x. limited_to x t e r c) h f (both_limited (are_limits t e r c) s (record { transactions = t; events = e; readings = r; changes = c }) f.once)
  stay n s lone (declares site new) h f = both_early n s lone (λ x. declared_to x site new) h f (both_declared s site new f.once)
  stay n s lone (sets_period site seconds) h f = both_early n s lone (λ x. period_to x site seconds) h f (both_period (is_period seconds) (site_number site s.sites) s (lasting seconds) f.once)
  stay n s lone (sets_order site order) h f = both_early n s lone (λ x. order_to x site order) h f (both_ordered (site_number site s.sites) s order f.once)
  stay n s lone (sets_settle site rule) h f = both_early n s lone (λ x. settle_to x site rule) h f (both_settled (site_number site s.sites) s (settling rule) f.once)
  stay n s lone (tells nanos) h f = (refl, record { o = f.o; is = ap (λ (l : Script). record l { moment = nanos }) f.is; once = f.once; few = f.few; early = f.early })
  stay n s lone (sends x text) h f =
      let count = count_after_message n (station_named x s.world) (message text s.moment) in
      let all = sent_to (station_named x s.world) s text in
      subst (λ l. AreAlike count all.1 all (sent_to (station_named x l.world) l text)) (sym f.is)
      (subst (λ o. AreAlike count all.1 all (sent_to o (loned n f.o s) text)) (sym (named_only name tx n x s.world))
      (both_sent s n f.o x text (station_named x s.world) refl h f.once f.few))
  stay n s lone (delivers x text) h f =
      let count = count_after_message n (station_named x s.world) (message text s.moment) in
      let told = delivered_text n (station_named x s.world) (message text s.moment) in
      let all = delivered_to (station_named x s.world) s text in
      subst (λ l. AreAlike count told all (delivered_to (station_named x l.world) l text)) (sym f.is)
      (subst (λ o. AreAlike count told all (delivered_to o (loned n f.o s) text)) (sym (named_only name tx n x s.world))
      (both_delivered s n f.o x text (station_named x s.world) refl h f.once f.few))
  stay n s lone (commands x command) h f =
      let count = count_after_command n (station_named x s.world) command in
      let told = command_text n (station_named x s.world) command in
      let all = commanded_to (station_named x s.world) s command in
      subst (λ l. AreAlike count told all (commanded_to (station_named x l.world) l command)) (sym f.is)
      (subst (λ o. AreAlike count told all (commanded_to o (loned n f.o s) command)) (sym (named_only name tx n x s.world))
      (both_command s n f.o x command (station_named x s.world) refl h f.once f.few))
  stay n s lone (asks_energy _) h f = absurd (false≢true h)
  stay n s lone (asks_export _) h f = absurd (false≢true h)
  stay n s lone (asks_total _) h f = absurd (false≢true h)
  stay n s lone (asks_board _) h f = absurd (false≢true h)
  stay n s lone (lists what x id) h f =
      let parts = and_parts (bytes_eq name x) (bytes_eq tx id) h in
      let same : tx ≡ id = one_text tx id parts.1 in
      let own : name ≡ x = one_text name x parts.0 in (
        subst (λ y. list_answer (order_named y) (period_named y) what x id (station_named x y.world) ≡ list_answer (order_named s) (period_named s) what x id (station_named x s.world)) (sym f.is)
            (subst (λ y. list_answer (order_named s) (period_named s) what x y (station_named x (map (only name tx n) s.world))
            ≡ list_answer (order_named s) (period_named s) what x y (station_named x s.world)) same
            (ap (list_answer (order_named s) (period_named s) what x tx) (named_only name tx n x s.world) ∙ both_lists s what n x own (station_named x s.world) refl)),
        record { o = true; is = ap (λ (l : Script). record l { opened = true }) f.is; once = f.once; few = f.few; early = λ closed. absurd (false≢true (sym closed)) },
      )
  stay n s lone (asks_meaning text) h f = (ap (λ (l : Script). asked_line (message text l.moment)) f.is, f)
  stay n s lone (marks _) h f = absurd (false≢true h)

  -- what the second script writes and leaves
  abbrev AreThrough : ℕ → Script → Script → List Line → Type 0
  AreThrough n s lone lines =
      (line_texts lone (lone_lines name tx s lines) ≡ lone_texts name tx n s lines) × Follows (lone_count name tx n s lines) (script_after s lines) (script_after lone (lone_lines name tx s lines))

  through : (n : ℕ) (s lone : Script) (lines : List Line) → Follows n s lone → AreThrough n s lone lines
  through n s lone [] f = (refl, f)
  through n s lone (line ∷ lines) f =
      by_case (stays name tx s (line_meaning line)) refl
      (λ g. through (count_after n s (line_meaning line)) (line_step s line).0 (line_step lone line).0 lines g)
      (λ g. through n (line_step s line).0 lone lines g)
    where
      by_case : let next = (line_step s line).0 in let after = (line_step lone line).0 in let m = count_after n s (line_meaning line) in (b : Bool) → stays name tx s (line_meaning line) ≡ b
          → (Follows m next after → AreThrough m next after lines) → (Follows n next lone → AreThrough n next lone lines)
          → (line_texts lone (cond b (line ∷ lone_lines name tx next lines) (lone_lines name tx next lines))
          ≡ cond b (lone_text n s (line_meaning line) ∷ lone_texts name tx m next lines) (lone_texts name tx n next lines))
          × Follows (cond b (lone_count name tx m next lines) (lone_count name tx n next lines)) (script_after next lines)
          (script_after lone (cond b (line ∷ lone_lines name tx next lines) (lone_lines name tx next lines)))
      by_case true is kept left = let both = stay n s lone (line_meaning line) is f in let rest = kept both.1 in ((λ i. both.0 i ∷ rest.0 i), rest.1)
      by_case false is kept left = left (gone n s lone (line_meaning line) is f)

  pub all_lines : (lines : List Line) → AreThrough 0 start start lines
  all_lines lines = through 0 start start lines (fresh start tt)

  pub lone_answers : (lines : List Line) → line_texts start (lone_lines name tx start lines) ≡ lone_texts name tx 0 start lines
  lone_answers lines = (all_lines lines).0

  pub once_after : (lines : List Line) → NamedOnce name (names (script_after start lines).world)
  once_after lines = (all_lines lines).1.once

  pub alone_after : (lines : List Line) → IsAloneAfter name tx (lone_count name tx 0 start lines) (script_after start lines) (script_after start (lone_lines name tx start lines))
  alone_after lines =
      let is = (all_lines lines).1.is in
      record {
        sites = ap (λ (l : Script). l.sites) is;
        periods = ap (λ (l : Script). l.periods) is;
        orders = ap (λ (l : Script). l.orders) is;
        moment = ap (λ (l : Script). l.moment) is;
        world = ap (λ (l : Script). l.world) is;
      }

pub lone_sum : (order : Order) (period : Periods) (lines : List Line) (name : List ℕ) (station : Station)
    → station_named name (script_after start lines).world ≡ Some station → board_by order period (entries station.content) ≡ sum_of_boards period (lone_boards order period lines station)
lone_sum order period lines name station found =
    let w = (script_after start lines).world in
    let is : name ≡ station.name = name_found name w station found in
    let here : station_named station.name w ≡ Some station = subst (λ x. station_named x w ≡ Some station) is found in
    let each : (tx : List ℕ) → board_by order period (entries (alone tx 0 station.content)) ≡ board_at order period (station_named station.name (script_after start (lone_lines station.name tx start lines)).world) =
    λ tx.
    let f = alone_after station.name tx lines in
    let n = lone_count station.name tx 0 start lines in
    sym (ap (λ w. board_at order period (station_named station.name w)) f.world
    ∙ ap (board_at order period) (named_only station.name tx n station.name w ∙ ap (only_some station.name tx n) here)
    ∙ ap (λ (s : Station). board_by order period (entries s.content)) (only_own station.name tx n station (same_text station.name))) in
    content_board order period station.content ∙ ap (sum_of_boards period) (map_same _ _ each (transactions_of (entries station.content)))
