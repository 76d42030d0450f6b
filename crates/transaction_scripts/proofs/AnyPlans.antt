-- One transaction in two scripts that declare its station alike.
use Rattle.std.{proofs.Common.{◌≡◌, ℕ, ◌≤◌, Bool, true, false, cond, ◌&&◌, arith, List, [], ◌∷◌, Option, None, Some, All, refl, sym, ap, subst, ◌∙◌, bytes_eq}, proofs.lemmas.Bool.{and_parts, false≢true}, proofs.lemmas.List.Elements.{All-head, All-tail}}
use Rattle.ledger_model.{specs.Admissible.key_of, specs.Content.{Entry, entries}, specs.Deltas.own_events, specs.declared.order.Order.Order, specs.Periods.Periods, specs.declared.command.Command.Command, specs.declared.command.Command.TheVariants.Deliver, specs.Step.{answer, step}, specs.World.{Happens, Station, station_after, world_after}, proofs.SumsByTransaction.{one_text, same_text}}
use Rattle.script_ledgers.specs.Script.{Script, asked_line, by_meaning, commanded_to, delivered_to, line_step, list_answer, listed, order_named, period_named, script_after, sent_to, station_named, step_by, told_by}
use Rattle.script_lines.{specs.declared.script_line.TxList.TxList, specs.LineMeaning.{LineMeaning, nothing, fails, sets_limits, declares, sets_period, sets_order, sets_settle, tells, sends, delivers, commands, asks_energy, asks_export, asks_total, asks_board, lists, asks_meaning, marks, line_meaning}, specs.Lines.Line, specs.Texts.{answer_text, delivered_line, ended_line}}
use Rattle.station_ledger.specs.Listing.{listing_by}
use Rattle.transaction_event.{specs.Message.{Event, Meaning, Ready, Silence, message}, specs.Reply.event_reply_bytes}
use Rattle.transaction_laws.{specs.Alone.{alone, belongs_to, changes_after, counted_after, is_by_limit}, specs.Transcript.is_own, proofs.AloneEvents.{entries_alone, none_alone}, proofs.LoneEntries.turned_text, proofs.LoneRuns.{both_true, not_own}, proofs.StepLemmas.{enough_itself, own_step}}
use Rattle.transaction_scripts.{specs.AnyPlan.{DeclareAlike, DeclaresNothing, HasAlone}, specs.LoneScripts.{command_text, count_after, count_after_command, count_after_message, delivered_text, is_own_command, is_own_message, line_texts, lone_count, lone_lines, lone_text, lone_texts, stays}, proofs.LoneSteps.{listing_own, no_count, same_after}, proofs.LoneWorlds.{after_one, grown, name_found, named_after}}

-- a command on a station
abbrev on : Station → Command → Happens
on station command = (station.name, command)

module _ (name tx : List ℕ) where
  more : (n : ℕ) (st : Station) (command : Command) → n ≤ st.content.changes → n ≤ (station_after st command).content.changes
  more n st command less = let rise = grown name tx st command in omega (arith, rise, less)

  abbrev with_only : ℕ → Station → Station
  with_only n station = record station { content = alone tx n station.content }

  -- the station after a command that does not belong to the transaction
  skips : (n : ℕ) (s lone : Script) (x : List ℕ) (station : Station) (command : Command) → station_named x s.world ≡ Some station → is_own_command name tx (Some station) command ≡ false
      → HasAlone name tx n s lone → HasAlone name tx n (record s { opened = true; world = world_after s.world (station.name, command) }) lone
  skips n s lone x station command found refused h = by_case (bytes_eq name station.name) refl refused
    where
      after : station_named name (world_after s.world (on station command)) ≡ Some (cond (bytes_eq station.name h.station.name) (station_after h.station command) h.station)
      after = named_after name s.world (on station command) ∙ ap (after_one (on station command)) h.whole_station

      own_name : name ≡ h.station.name
      own_name = name_found name s.world h.station h.whole_station

      by_case : (b : Bool) → bytes_eq name station.name ≡ b → (b && is_own tx (command, answer station.limits station.content command)) ≡ false
          → HasAlone name tx n (record s { opened = true; world = world_after s.world (station.name, command) }) lone
      by_case true own refused =
          let same : name ≡ station.name = one_text name station.name own in
          let is : Some station ≡ Some h.station = sym found ∙ ap (λ y. station_named y s.world) (name_found x s.world station found ∙ sym same) ∙ h.whole_station in
          let here : station ≡ h.station = cc is in
          let there : bytes_eq station.name h.station.name ≡ true = ap (λ (t : Station). bytes_eq station.name t.name) (sym here) ∙ same_text station.name in
          let kept : alone tx n (step h.station.limits h.station.content command).0 ≡ alone tx n h.station.content =
          not_own h.station.limits h.station.limits (enough_itself h.station.limits) tx h.station.content n command
          (subst (λ (t : Station). is_own tx (command, answer t.limits t.content command) ≡ false) here refused) in
          record {
            station = station_after h.station command;
            whole_station = after ∙ ap (λ b. Some (cond b (station_after h.station command) h.station)) there;
            lone_station = h.lone_station ∙ ap (λ c. Some (record h.station { content = c })) (sym kept);
            changes = more n h.station command h.changes;
            order = h.order;
            period = h.period;
            moment = h.moment;
          }
      by_case false other refused =
          let apart : bytes_eq station.name h.station.name ≡ false = ap (bytes_eq station.name) (sym own_name) ∙ turned_text station.name name ∙ other in
          record {
            station = h.station;
            whole_station = after ∙ ap (λ b. Some (cond b (station_after h.station command) h.station)) apart;
            lone_station = h.lone_station;
            changes = h.changes;
            order = h.order;
            period = h.period;
            moment = h.moment;
          }

  opens : (n : ℕ) (s lone : Script) → HasAlone name tx n s lone → HasAlone name tx n (record s { opened = true }) lone
  opens n s lone h =
      record { station = h.station; whole_station = h.whole_station; lone_station = h.lone_station; changes = h.changes; order = h.order; period = h.period; moment = h.moment }

  gone_message : (n : ℕ) (s lone : Script) (x : List ℕ) (station : Station) (m : Meaning) → station_named x s.world ≡ Some station → is_own_message name tx (Some station) m ≡ false
      → HasAlone name tx n s lone → HasAlone name tx n (by_meaning m station s).0 lone
  gone_message n s lone x station (Event id request) found refused h = skips n s lone x station (Deliver request.key request.event) found refused h
  gone_message n s lone x station (Ready reply) found refused h = opens n s lone h
  gone_message n s lone x station Silence found refused h = opens n s lone h

  gone_sent : (n : ℕ) (s lone : Script) (x text : List ℕ) (found : Option Station) → station_named x s.world ≡ found → is_own_message name tx found (message text s.moment) ≡ false
      → HasAlone name tx n s lone → HasAlone name tx n (sent_to found s text).0 lone
  gone_sent n s lone x text None e refused h = opens n s lone h
  gone_sent n s lone x text (Some station) e refused h = gone_message n s lone x station (message text s.moment) e refused h

  gone_command : (n : ℕ) (s lone : Script) (x : List ℕ) (command : Command) (found : Option Station) → station_named x s.world ≡ found → is_own_command name tx found command ≡ false
      → HasAlone name tx n s lone → HasAlone name tx n (commanded_to found s command).0 lone
  gone_command n s lone x command None e refused h = opens n s lone h
  gone_command n s lone x command (Some station) e refused h = skips n s lone x station command e refused h

  gone : (n : ℕ) (s lone : Script) (meaning : LineMeaning) → DeclaresNothing meaning → stays name tx s meaning ≡ false → HasAlone name tx n s lone → HasAlone name tx n (step_by s meaning).0 lone
  gone n s lone nothing plain e h = h
  gone n s lone (fails _) plain e h = h
  gone n s lone (sets_limits _ _ _ _) plain e h = absurd plain
  gone n s lone (declares _ _) plain e h = absurd plain
  gone n s lone (sets_period _ _) plain e h = absurd plain
  gone n s lone (sets_order _ _) plain e h = absurd plain
  gone n s lone (sets_settle _ _) plain e h = absurd plain
  gone n s lone (tells _) plain e h = absurd (false≢true (sym e))
  gone n s lone (sends x text) plain e h = gone_sent n s lone x text (station_named x s.world) refl e h
  gone n s lone (delivers x text) plain e h =
      subst (λ l. HasAlone name tx n l lone) (sym (same_after name tx (station_named x s.world) s text)) (gone_sent n s lone x text (station_named x s.world) refl e h)
  gone n s lone (commands x command) plain e h = gone_command n s lone x command (station_named x s.world) refl e h
  gone n s lone (asks_energy _) plain e h = opens n s lone h
  gone n s lone (asks_export _) plain e h = opens n s lone h
  gone n s lone (asks_total _) plain e h = opens n s lone h
  gone n s lone (asks_board _) plain e h = opens n s lone h
  gone n s lone (lists what x id) plain e h = opens n s lone h
  gone n s lone (asks_meaning _) plain e h = absurd (false≢true (sym e))
  gone n s lone (marks _) plain e h = h

  -- what the second script does with a line that stays
  abbrev IsSame : ℕ → List ℕ → Script × List ℕ → Script × List ℕ → Type 0
  IsSame n text p q = (q.1 ≡ text) × HasAlone name tx n p.0 q.0

  -- a command of the transaction
  pub record OwnStep (s lone : Script) (station there : Station) (command : Command) (n : ℕ) : Type 0 where
    pub text : answer there.limits there.content command ≡ counted_after n (answer station.limits station.content command)
    pub has : HasAlone name tx (changes_after n (answer station.limits station.content command)) (record s { opened = true; world = world_after s.world (station.name, command) })
        (record lone { opened = true; world = world_after lone.world (there.name, command) })

  own_one : (n : ℕ) (s lone : Script) (h : HasAlone name tx n s lone) (command : Command) → belongs_to tx (key_of command) ≡ true → is_by_limit (answer h.station.limits h.station.content command) ≡ false
      → OwnStep s lone h.station (with_only n h.station) command n
  own_one n s lone h command own free =
      let st = h.station in
      let one = own_step st.limits st.limits (enough_itself st.limits) st.content tx n h.changes command own free in
      let m = changes_after n (answer st.limits st.content command) in
      let happens : Happens = (st.name, command) in
      let alike = same_text st.name in
      let only : Station = record st { content = alone tx n st.content } in
      record {
        text = one.answer;
        has = record {
          station = station_after st command;
          whole_station = named_after name s.world happens ∙ ap (after_one happens) h.whole_station ∙ ap (λ b. Some (cond b (station_after st command) st)) alike;
          lone_station = named_after name lone.world happens ∙ ap (after_one happens) h.lone_station ∙ ap (λ b. Some (cond b (station_after only command) only)) alike
              ∙ ap (λ c. Some (record st { content = c })) one.content;
          changes = one.changes;
          order = h.order;
          period = h.period;
          moment = h.moment;
        };
      }

  -- the station that an own command is on
  own_parts : (n : ℕ) (s lone : Script) (h : HasAlone name tx n s lone) (x : List ℕ) (found : Option Station) (command : Command) → station_named x s.world ≡ found → is_own_command name tx found command ≡ true
      → (found ≡ Some h.station) × (station_named x lone.world ≡ Some (with_only n h.station)) × (belongs_to tx (key_of command) ≡ true) × (is_by_limit (answer h.station.limits h.station.content command) ≡ false)
  own_parts n s lone h x None command e own = absurd (false≢true own)
  own_parts n s lone h x (Some station) command e own =
      let parts = and_parts (bytes_eq name station.name) (is_own tx (command, answer station.limits station.content command)) own in
      let same : name ≡ station.name = one_text name station.name parts.0 in
      let names : x ≡ name = name_found x s.world station e ∙ sym same in
      let is : Some station ≡ Some h.station = sym e ∙ ap (λ y. station_named y s.world) names ∙ h.whole_station in
      let here : station ≡ h.station = cc is in
      let line = both_true (belongs_to tx (key_of command)) (is_by_limit (answer station.limits station.content command)) parts.1 in
      (is, ap (λ y. station_named y lone.world) names ∙ h.lone_station, line.0, subst (λ (t : Station). is_by_limit (answer t.limits t.content command) ≡ false) here line.1)

  -- a message of the transaction, by either line
  same_message : (n : ℕ) (s lone : Script) (h : HasAlone name tx n s lone) (m : Meaning) → is_own_message name tx (Some h.station) m ≡ true
      → IsSame (count_after_message n (Some h.station) m) (by_meaning m h.station s).1 (by_meaning m h.station s) (by_meaning m (with_only n h.station) lone)
  same_message n s lone h (Event id request) own =
      let command = Deliver request.key request.event in
      let parts = own_parts n s lone h name (Some h.station) command h.whole_station own in
      let one = own_one n s lone h command parts.2 parts.3 in
      (ap (λ a. ended_line (event_reply_bytes id request.token a)) one.text ∙ ap ended_line (no_count id request.token n (answer h.station.limits h.station.content command)), one.has)
  same_message n s lone h (Ready reply) own = absurd (false≢true own)
  same_message n s lone h Silence own = absurd (false≢true own)

  same_delivery : (n : ℕ) (s lone : Script) (h : HasAlone name tx n s lone) (m : Meaning) → is_own_message name tx (Some h.station) m ≡ true
      → IsSame (count_after_message n (Some h.station) m) (delivered_text n (Some h.station) m) (told_by m h.station s) (told_by m (with_only n h.station) lone)
  same_delivery n s lone h (Event id request) own =
      let command = Deliver request.key request.event in
      let parts = own_parts n s lone h name (Some h.station) command h.whole_station own in
      let one = own_one n s lone h command parts.2 parts.3 in
      let a = answer h.station.limits h.station.content command in
      (ap (λ b. delivered_line b (event_reply_bytes id request.token b)) one.text ∙ ap (delivered_line (counted_after n a)) (no_count id request.token n a), one.has)
  same_delivery n s lone h (Ready reply) own = absurd (false≢true own)
  same_delivery n s lone h Silence own = absurd (false≢true own)

  -- the station that an own message is of
  message_parts : (n : ℕ) (s lone : Script) (h : HasAlone name tx n s lone) (x : List ℕ) (found : Option Station) (m : Meaning) → station_named x s.world ≡ found → is_own_message name tx found m ≡ true
      → (found ≡ Some h.station) × (station_named x lone.world ≡ Some (with_only n h.station))
  message_parts n s lone h x found (Event id request) e own = let parts = own_parts n s lone h x found (Deliver request.key request.event) e own in (parts.0, parts.1)
  message_parts n s lone h x found (Ready reply) e own = absurd (false≢true own)
  message_parts n s lone h x found Silence e own = absurd (false≢true own)

  same_sent : (n : ℕ) (s lone : Script) → HasAlone name tx n s lone → (x text : List ℕ) → is_own_message name tx (station_named x s.world) (message text s.moment) ≡ true
      → IsSame (count_after_message n (station_named x s.world) (message text s.moment)) (sent_to (station_named x s.world) s text).1 (sent_to (station_named x s.world) s text)
      (sent_to (station_named x lone.world) lone text)
  same_sent n s lone h x text own =
      let m = message text s.moment in
      let parts = message_parts n s lone h x (station_named x s.world) m refl own in
      let all = by_meaning m h.station s in
      subst (λ o. IsSame (count_after_message n o m) (sent_to o s text).1 (sent_to o s text) (sent_to (station_named x lone.world) lone text)) (sym parts.0)
      (subst (λ o. IsSame (count_after_message n (Some h.station) m) all.1 all (sent_to o lone text)) (sym parts.1)
      (subst (λ k. IsSame (count_after_message n (Some h.station) m) all.1 all (by_meaning (message text k) (with_only n h.station) lone)) (sym h.moment)
      (same_message n s lone h m (subst (λ o. is_own_message name tx o m ≡ true) parts.0 own))))

  same_delivered : (n : ℕ) (s lone : Script) → HasAlone name tx n s lone → (x text : List ℕ) → is_own_message name tx (station_named x s.world) (message text s.moment) ≡ true
      → IsSame (count_after_message n (station_named x s.world) (message text s.moment)) (delivered_text n (station_named x s.world) (message text s.moment))
      (delivered_to (station_named x s.world) s text) (delivered_to (station_named x lone.world) lone text)
  same_delivered n s lone h x text own =
      let m = message text s.moment in
      let parts = message_parts n s lone h x (station_named x s.world) m refl own in
      let all = told_by m h.station s in
      let written = delivered_text n (Some h.station) m in
      subst (λ o. IsSame (count_after_message n o m) (delivered_text n o m) (delivered_to o s text) (delivered_to (station_named x lone.world) lone text)) (sym parts.0)
      (subst (λ o. IsSame (count_after_message n (Some h.station) m) written all (delivered_to o lone text)) (sym parts.1)
      (subst (λ k. IsSame (count_after_message n (Some h.station) m) written all (told_by (message text k) (with_only n h.station) lone)) (sym h.moment)
      (same_delivery n s lone h m (subst (λ o. is_own_message name tx o m ≡ true) parts.0 own))))

  same_command : (n : ℕ) (s lone : Script) → HasAlone name tx n s lone → (x : List ℕ) (command : Command) → is_own_command name tx (station_named x s.world) command ≡ true
      → IsSame (count_after_command n (station_named x s.world) command) (command_text n (station_named x s.world) command)
      (commanded_to (station_named x s.world) s command) (commanded_to (station_named x lone.world) lone command)
  same_command n s lone h x command own =
      let parts = own_parts n s lone h x (station_named x s.world) command refl own in
      let one = own_one n s lone h command parts.2 parts.3 in
      subst (λ o. IsSame (count_after_command n o command) (command_text n o command) (commanded_to o s command) (commanded_to (station_named x lone.world) lone command)) (sym parts.0)
      (subst (λ o. IsSame (count_after_command n (Some h.station) command) (command_text n (Some h.station) command) (commanded_to (Some h.station) s command) (commanded_to o lone command)) (sym parts.1)
      (ap (λ a. ended_line (answer_text a)) one.text, one.has))

  same_list : (n : ℕ) (s lone : Script) → HasAlone name tx n s lone → (what : TxList) (x id : List ℕ) → name ≡ x → tx ≡ id
      → list_answer (order_named lone) (period_named lone) what x id (station_named x lone.world) ≡ list_answer (order_named s) (period_named s) what x id (station_named x s.world)
  same_list n s lone h what x id own same =
      let st = h.station in
      let here : station_named x s.world ≡ Some st = ap (λ y. station_named y s.world) (sym own) ∙ h.whole_station in
      let there : station_named x lone.world ≡ Some (with_only n st) = ap (λ y. station_named y lone.world) (sym own) ∙ h.lone_station in
      let text = λ (o : Order) (p : Periods) (t : List ℕ) (es : List Entry). listed what x t (listing_by o p t es) in
      ap (list_answer (order_named lone) (period_named lone) what x id) there
      ∙ (λ i. text (h.order i) (h.period i) id (entries_alone tx st.content.events i))
      ∙ subst (λ t. text (order_named s st.site) (period_named s st.site) t (own_events tx (entries st.content)) ≡ text (order_named s st.site) (period_named s st.site) t (entries st.content)) same
      (ap (listed what x tx) (listing_own name tx (order_named s st.site) (period_named s st.site) (entries st.content)))
      ∙ sym (ap (list_answer (order_named s) (period_named s) what x id) here)

  stay : (n : ℕ) (s lone : Script) (meaning : LineMeaning) → DeclaresNothing meaning → stays name tx s meaning ≡ true → HasAlone name tx n s lone
      → IsSame (count_after n s meaning) (lone_text n s meaning) (step_by s meaning) (step_by lone meaning)
  stay n s lone nothing plain e h = absurd (false≢true e)
  stay n s lone (fails _) plain e h = absurd (false≢true e)
  stay n s lone (sets_limits _ _ _ _) plain e h = absurd plain
  stay n s lone (declares _ _) plain e h = absurd plain
  stay n s lone (sets_period _ _) plain e h = absurd plain
  stay n s lone (sets_order _ _) plain e h = absurd plain
  stay n s lone (sets_settle _ _) plain e h = absurd plain
  stay n s lone (tells nanos) plain e h =
      (refl, record { station = h.station; whole_station = h.whole_station; lone_station = h.lone_station; changes = h.changes; order = h.order; period = h.period; moment = refl })
  stay n s lone (sends x text) plain e h = same_sent n s lone h x text e
  stay n s lone (delivers x text) plain e h = same_delivered n s lone h x text e
  stay n s lone (commands x command) plain e h = same_command n s lone h x command e
  stay n s lone (asks_energy _) plain e h = absurd (false≢true e)
  stay n s lone (asks_export _) plain e h = absurd (false≢true e)
  stay n s lone (asks_total _) plain e h = absurd (false≢true e)
  stay n s lone (asks_board _) plain e h = absurd (false≢true e)
  stay n s lone (lists what x id) plain e h =
      let parts = and_parts (bytes_eq name x) (bytes_eq tx id) e in (
        same_list n s lone h what x id (one_text name x parts.0) (one_text tx id parts.1),
        record { station = h.station; whole_station = h.whole_station; lone_station = h.lone_station; changes = h.changes; order = h.order; period = h.period; moment = h.moment },
      )
  stay n s lone (asks_meaning text) plain e h = (ap (λ k. asked_line (message text k)) h.moment, h)
  stay n s lone (marks _) plain e h = absurd (false≢true e)

  abbrev AreSame : ℕ → Script → Script → List Line → Type 0
  AreSame n s lone lines =
      (line_texts lone (lone_lines name tx s lines) ≡ lone_texts name tx n s lines) × HasAlone name tx (lone_count name tx n s lines) (script_after s lines) (script_after lone (lone_lines name tx s lines))

  pub any_plan : (n : ℕ) (s lone : Script) (lines : List Line) → All (λ line. DeclaresNothing (line_meaning line)) lines → HasAlone name tx n s lone → AreSame n s lone lines
  any_plan n s lone [] all h = (refl, h)
  any_plan n s lone (line ∷ lines) all h =
      let none = All-head (λ (l : Line). DeclaresNothing (line_meaning l)) line lines all in
      let rest = All-tail (λ (l : Line). DeclaresNothing (line_meaning l)) line lines all in
      by_case (stays name tx s (line_meaning line)) refl none
      (λ g. any_plan (count_after n s (line_meaning line)) (line_step s line).0 (line_step lone line).0 lines rest g)
      (λ g. any_plan n (line_step s line).0 lone lines rest g)
    where
      by_case : let next = (line_step s line).0 in let after = (line_step lone line).0 in let m = count_after n s (line_meaning line) in (b : Bool) → stays name tx s (line_meaning line) ≡ b
          → DeclaresNothing (line_meaning line) → (HasAlone name tx m next after → AreSame m next after lines) → (HasAlone name tx n next lone → AreSame n next lone lines)
          → (line_texts lone (cond b (line ∷ lone_lines name tx next lines) (lone_lines name tx next lines))
          ≡ cond b (lone_text n s (line_meaning line) ∷ lone_texts name tx m next lines) (lone_texts name tx n next lines))
          × HasAlone name tx (cond b (lone_count name tx m next lines) (lone_count name tx n next lines)) (script_after next lines)
          (script_after lone (cond b (line ∷ lone_lines name tx next lines) (lone_lines name tx next lines)))
      by_case true is none kept left = let both = stay n s lone (line_meaning line) none is h in let rest = kept both.1 in ((λ i. both.0 i ∷ rest.0 i), rest.1)
      by_case false is none kept left = left (gone n s lone (line_meaning line) none is h)

-- two plans that declare a station alike
pub begins_alone : (name tx : List ℕ) (s other : Script) → DeclareAlike name s other → HasAlone name tx 0 s other
begins_alone name tx s other d = record {
  station = d.station;
  whole_station = d.declared;
  lone_station = d.declared_again ∙ ap (λ c. Some (record d.station { content = c })) (d.empty ∙ sym (none_alone tx) ∙ ap (alone tx 0) (sym d.empty));
  changes = omega arith;
  order = d.order;
  period = d.period;
  moment = d.moment;
}
