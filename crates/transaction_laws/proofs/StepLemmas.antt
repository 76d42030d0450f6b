-- Steps of a content, and of what it holds of one transaction.
use Rattle.std.{proofs.Common.{◌≡◌, ℕ, ◌+◌, ◌<◌, ◌≤◌, Bool, true, false, cond, not, ◌&&◌, List, [], ◌∷◌, length, min, Option, Some, None, refl, sym, ap, subst, ◌∙◌, nat_le, nat_lt, arith}, proofs.lemmas.Bool.{leb-false, ltb-false, le-ltb, lt-leb}}
use Rattle.std.specs.FinMap as finite
use Rattle.ledger_model.{specs.declared.command.Command.Command, specs.declared.command.Command.TheVariants.{Deliver, Void, Restore, Erase}, specs.declared.answer.Answer.Answer, specs.declared.answer.Answer.TheVariants.{Accepted, Repeat, Refused}, specs.declared.answer.Refusal.Refusal, specs.declared.answer.Refusal.TheVariants.{ConflictingEvent, TooManyTransactions, EventsFull, ReadingsFull, AlreadyVoided, NotVoided, ChangesExhausted}, specs.Admissible.key_of, specs.Content.{Content, Entry, Stored, entries, has_transaction, transactions_of}, specs.Deltas.own_events, specs.Event.{EventContent, same_event}, specs.Key.KeyName, specs.Laws.IsAccepted, specs.Limits.Bounds, specs.Step.{accepted_within_limit, answer, answer_to_deliver, answer_to_void, answer_to_voided, content_after, readings_stored, step}, proofs.ReachedContents.is_counted, proofs.SumsByTransaction.one_text}
use Rattle.transaction_laws.{specs.Alone.{AreEnough, IsStepAlone, NeedsNoMore, alone, changes_after, counted_after, is_by_limit, belongs_to}, proofs.AloneEvents.{entries_alone, fewer_events, fewer_readings, fewer_transactions, get_own, has_own, other_events_after, own_events_after}, proofs.LoneEntries.own_transactions}

-- an answer that is a refusal by a limit or another, and is none by a limit, is the other
not_by_limit : (b : Bool) (why : Refusal) (other : Answer) → is_by_limit (Refused why) ≡ true → is_by_limit (cond b (Refused why) other) ≡ false → (b ≡ false) × (is_by_limit other ≡ false)
not_by_limit true why other is h = absurd (subst (λ c. cond c (Unit {0}) ⊥) (sym is ∙ h) tt)
not_by_limit false why other is h = (refl, h)

-- a limit that a number stays below, or within, a smaller one does too
below_limit : (limit lone n m : ℕ) → limit ≤ lone → m ≤ n → nat_le limit n ≡ false → nat_le lone m ≡ false
below_limit limit lone n m enough less h = let below : n < limit = leb-false limit n h in lt-leb lone m (omega arith)

within_limit : (limit lone n m : ℕ) → limit ≤ lone → m ≤ n → nat_lt limit n ≡ false → nat_lt lone m ≡ false
within_limit limit lone n m enough less h = let within : n ≤ limit = ltb-false limit n h in le-ltb lone m (omega arith)

-- the rule of transactions
room_for_one : (limit lone n m : ℕ) (has : Bool) → min 1 limit ≤ lone → m ≡ cond has 1 0 → (not has && nat_le limit n) ≡ false → (not has && nat_le lone m) ≡ false
room_for_one limit lone n m true enough is h = refl
room_for_one limit lone n m false enough is h = let below : n < limit = leb-false limit n h in lt-leb lone m (omega arith)

length_one : (b : Bool) (t : List ℕ) → length {A = List ℕ} (cond b (t ∷ []) []) ≡ cond b 1 0
length_one true t = refl
length_one false t = refl

module _ (limits lone : Bounds) (enough : AreEnough limits lone) (c : Content) (tx : List ℕ) (n : ℕ) (less : n ≤ c.changes) where
  -- the count of changes
  lone_change : is_by_limit (accepted_within_limit limits c) ≡ false → accepted_within_limit lone (alone tx n c) ≡ counted_after n (accepted_within_limit limits c)
  lone_change h =
      let room : nat_le limits.changes c.changes ≡ false = (not_by_limit (nat_le limits.changes c.changes) ChangesExhausted (Accepted (c.changes + 1)) refl h).0 in
      ap (λ b. cond b (Refused ChangesExhausted) (Accepted (n + 1))) (below_limit limits.changes lone.changes c.changes n enough.changes less room)
      ∙ sym (ap (λ b. counted_after n (cond b (Refused ChangesExhausted) (Accepted (c.changes + 1)))) room)

  lone_deliver : (key : KeyName) (event : EventContent) (o : Option Stored) → belongs_to tx key ≡ true → is_by_limit (answer_to_deliver limits c key event o) ≡ false
      → answer_to_deliver lone (alone tx n c) key event o ≡ counted_after n (answer_to_deliver limits c key event o)
  lone_deliver key event (Some stored) own h = by_case (same_event stored.event event)
    where
      by_case : (b : Bool) → cond b Repeat (Refused ConflictingEvent) ≡ counted_after n (cond b Repeat (Refused ConflictingEvent))
      by_case true = refl
      by_case false = refl
  lone_deliver key event None own h =
      let es = entries c in
      let mine = own_events tx es in
      let is : entries (alone tx n c) ≡ mine = entries_alone tx c.events in
      let one : tx ≡ key.tx = one_text tx key.tx own in
      let has : has_transaction key.tx mine ≡ has_transaction key.tx es = subst (λ t. has_transaction t mine ≡ has_transaction t es) one (has_own tx es) in
      let one_own : length (transactions_of mine) ≡ cond (has_transaction key.tx es) 1 0 =
      ap (λ (ts : List (List ℕ)). length ts) (own_transactions tx es) ∙ length_one (has_transaction tx es) tx ∙ ap (λ t. cond (has_transaction t es) 1 0) one in
      let a = not_by_limit (not (has_transaction key.tx es) && nat_le limits.transactions (length (transactions_of es))) TooManyTransactions _ refl h in
      let b = not_by_limit (nat_le limits.events (length es)) EventsFull _ refl a.1 in
      let r = not_by_limit (nat_lt limits.readings (readings_stored es + length event.readings)) ReadingsFull _ refl b.1 in
      let lone_a : (not (has_transaction key.tx mine) && nat_le lone.transactions (length (transactions_of mine))) ≡ false =
      ap (λ b. not b && nat_le lone.transactions (length (transactions_of mine))) has
      ∙ room_for_one limits.transactions lone.transactions (length (transactions_of es)) (length (transactions_of mine)) (has_transaction key.tx es) enough.transactions one_own a.0 in
      let lone_b : nat_le lone.events (length mine) ≡ false = below_limit limits.events lone.events (length es) (length mine) enough.events (fewer_events tx es) b.0 in
      let fewer : readings_stored mine + length event.readings ≤ readings_stored es + length event.readings = omega (arith, fewer_readings tx es) in
      let lone_r : nat_lt lone.readings (readings_stored mine + length event.readings) ≡ false =
      within_limit limits.readings lone.readings (readings_stored es + length event.readings) (readings_stored mine + length event.readings) enough.readings fewer r.0 in
      let told = λ (a b r : Bool) (last : Answer). cond a (Refused TooManyTransactions) (cond b (Refused EventsFull) (cond r (Refused ReadingsFull) last)) in
      (λ i. told (not (has_transaction key.tx (is i)) && nat_le lone.transactions (length (transactions_of (is i)))) (nat_le lone.events (length (is i)))
      (nat_lt lone.readings (readings_stored (is i) + length event.readings)) (accepted_within_limit lone (alone tx n c)))
      ∙ (λ i. told (lone_a i) (lone_b i) (lone_r i) (accepted_within_limit lone (alone tx n c)))
      ∙ lone_change r.1
      ∙ sym (λ i. counted_after n (told (a.0 i) (b.0 i) (r.0 i) (accepted_within_limit limits c)))

  lone_void : (o : Option Stored) → is_by_limit (answer_to_void limits c o) ≡ false → answer_to_void lone (alone tx n c) o ≡ counted_after n (answer_to_void limits c o)
  lone_void None h = refl
  lone_void (Some stored) h = by_case stored.voided h
    where
      by_case : (b : Bool) → is_by_limit (cond b (Refused AlreadyVoided) (accepted_within_limit limits c)) ≡ false
          → cond b (Refused AlreadyVoided) (accepted_within_limit lone (alone tx n c)) ≡ counted_after n (cond b (Refused AlreadyVoided) (accepted_within_limit limits c))
      by_case true h = refl
      by_case false h = lone_change h

  lone_voided : (o : Option Stored) → is_by_limit (answer_to_voided limits c o) ≡ false → answer_to_voided lone (alone tx n c) o ≡ counted_after n (answer_to_voided limits c o)
  lone_voided None h = refl
  lone_voided (Some stored) h = by_case stored.voided h
    where
      by_case : (b : Bool) → is_by_limit (cond b (accepted_within_limit limits c) (Refused NotVoided)) ≡ false
          → cond b (accepted_within_limit lone (alone tx n c)) (Refused NotVoided) ≡ counted_after n (cond b (accepted_within_limit limits c) (Refused NotVoided))
      by_case true h = lone_change h
      by_case false h = refl

  lone_answer : (command : Command) → belongs_to tx (key_of command) ≡ true → is_by_limit (answer limits c command) ≡ false → answer lone (alone tx n c) command ≡ counted_after n (answer limits c command)
  lone_answer (Deliver key event) own h = ap (answer_to_deliver lone (alone tx n c) key event) (get_own tx c.events key own) ∙ lone_deliver key event (finite.get c.events key) own h
  lone_answer (Void key) own h = ap (answer_to_void lone (alone tx n c)) (get_own tx c.events key own) ∙ lone_void (finite.get c.events key) h
  lone_answer (Restore key) own h = ap (answer_to_voided lone (alone tx n c)) (get_own tx c.events key own) ∙ lone_voided (finite.get c.events key) h
  lone_answer (Erase key) own h = ap (answer_to_voided lone (alone tx n c)) (get_own tx c.events key own) ∙ lone_voided (finite.get c.events key) h

  lone_content : (command : Command) (a : Answer) → belongs_to tx (key_of command) ≡ true
      → content_after (alone tx n c) command (counted_after n a) ≡ alone tx (changes_after n a) (content_after c command a)
  lone_content command (Accepted m) own = ap (λ events. record { events = events; changes = n + 1 }) (sym (own_events_after tx c.events command own))
  lone_content command Repeat own = refl
  lone_content command (Refused why) own = refl

  lone_count : (command : Command) (a : Answer) → (IsAccepted a → a ≡ Accepted (c.changes + 1)) → changes_after n a ≤ (content_after c command a).changes
  lone_count command (Accepted m) next = let same : Accepted m ≡ Accepted (c.changes + 1) = next tt in let is : m ≡ c.changes + 1 = cc in omega arith
  lone_count command Repeat next = less
  lone_count command (Refused why) next = less

  pub own_step : (command : Command) → belongs_to tx (key_of command) ≡ true → is_by_limit (answer limits c command) ≡ false → IsStepAlone limits lone c tx n command
  own_step command own h =
      let a = answer limits c command in
      let told : answer lone (alone tx n c) command ≡ counted_after n a = lone_answer command own h in
      record {
        answer = told;
        content = ap (content_after (alone tx n c) command) told ∙ lone_content command a own;
        changes = lone_count command a (λ accepted. (is_counted limits c command accepted).next);
      }

other_content : (tx : List ℕ) (n : ℕ) (c : Content) (command : Command) (a : Answer) → belongs_to tx (key_of command) ≡ false → alone tx n (content_after c command a) ≡ alone tx n c
other_content tx n c command (Accepted m) other = ap (λ events. record { events = events; changes = n }) (other_events_after tx c.events command other)
other_content tx n c command Repeat other = refl
other_content tx n c command (Refused why) other = refl

pub other_step : (limits : Bounds) (c : Content) (tx : List ℕ) (n : ℕ) (command : Command) → belongs_to tx (key_of command) ≡ false → alone tx n (step limits c command).0 ≡ alone tx n c
other_step limits c tx n command other = other_content tx n c command (answer limits c command) other

-- limits are enough for one of their own transactions
pub enough_itself : (limits : Bounds) → AreEnough limits limits
enough_itself limits = record { transactions = omega arith; events = omega arith; readings = omega arith; changes = omega arith }

-- a refusal by a limit leaves the content
left_as_is : (c : Content) (command : Command) (a : Answer) → is_by_limit a ≡ true → content_after c command a ≡ c
left_as_is c command (Accepted m) h = absurd (subst (λ b. cond b ⊥ (Unit {0})) h tt)
left_as_is c command Repeat h = refl
left_as_is c command (Refused why) h = refl

pub refused_step : (limits : Bounds) (c : Content) (command : Command) → is_by_limit (answer limits c command) ≡ true → (step limits c command).0 ≡ c
refused_step limits c command h = left_as_is c command (answer limits c command) h

at_most_one : (b : Bool) → cond b 1 0 ≤ 1
at_most_one true = omega arith
at_most_one false = omega arith

pub no_more_room : (c : Content) (tx : List ℕ) (n : ℕ) → NeedsNoMore c tx n
no_more_room c tx n =
    let es = entries c in
    let is : entries (alone tx n c) ≡ own_events tx es = entries_alone tx c.events in
    let few : length (transactions_of (own_events tx es)) ≤ 1 =
    omega (arith, ap (λ (ts : List (List ℕ)). length ts) (own_transactions tx es), length_one (has_transaction tx es) tx, at_most_one (has_transaction tx es)) in
    record {
      transactions = omega (arith, ap (λ l. length (transactions_of l)) is, few, fewer_transactions tx es);
      events = omega (arith, ap (λ (l : List Entry). length l) is, fewer_events tx es);
      readings = omega (arith, ap readings_stored is, fewer_readings tx es);
    }
