-- The events of one transaction among a content's.
use Rattle.std.{proofs.Common.{◌≡◌, ℕ, ◌≤◌, Bool, true, false, cond, not, ◌||◌, List, [], ◌∷◌, length, Option, Some, None, refl, sym, ap, subst, ◌∙◌, bytes_eq, arith}, specs.Ordering.eq_by_cmp, specs.declared.cmp.Ordering.TheVariants.Equal, specs.Cmp.Equal-is, specs.FinMap.FinMap, specs.FinMap.Entries.{find-where_key, is_sorted-where_key, same_entries}, proofs.lemmas.List.Filters.sum_by-filter_both, proofs.lemmas.List.Sums.{count_by-le-length, length-filter}}
use Rattle.std.specs.FinMap as finite
use Rattle.ledger_model.{specs.declared.command.Command.Command, specs.declared.command.Command.TheVariants.{Deliver, Void, Restore, Erase}, specs.Admissible.key_of, specs.Content.{Entry, Stored, empty_content, has_transaction, transactions_of}, specs.Deltas.own_events, specs.Key.{KeyName, key_cmp}, specs.Step.{events_after, marked_at, readings_stored}, proofs.Keys.{exact_keys, key_total}, proofs.Transactions.transactions-filter}
use Rattle.transaction_laws.specs.Alone.{alone, belongs_to}

module _ (tx : List ℕ) where
  -- equal keys are of the same transaction
  alike : (key x : KeyName) → key_cmp key x ≡ Equal → belongs_to tx x ≡ belongs_to tx key
  alike key x same = ap (belongs_to tx) (sym (exact_keys key x same))

  tied : (q key : KeyName) → eq_by_cmp key_cmp q key ≡ true → belongs_to tx q ≡ belongs_to tx key
  tied q key same = sym (alike q key ((Equal-is (key_cmp q key)).0 same))

  pub get_alone : (m : FinMap key_cmp Stored) (q : KeyName) → finite.get (finite.retain_keys m (belongs_to tx)) q ≡ cond (belongs_to tx q) (finite.get m q) None
  get_alone m q = finite.get-retain_keys m (belongs_to tx) q (alike q)

  -- an own key has the event that it has among others
  pub get_own : (m : FinMap key_cmp Stored) (key : KeyName) → belongs_to tx key ≡ true → finite.get (finite.retain_keys m (belongs_to tx)) key ≡ finite.get m key
  get_own m key own = get_alone m key ∙ ap (λ b. cond b (finite.get m key) None) own

  chosen : {A : Type 0} (a b : Bool) (x y z : A) → (b ≡ true → a ≡ true) → cond a (cond b x y) z ≡ cond b x (cond a y z)
  chosen true b x y z own = refl
  chosen false true x y z own = absurd (subst (λ c. cond c ⊥ (Unit {0})) (own refl) tt)
  chosen false false x y z own = refl

  left_out : {A : Type 0} (a b : Bool) (y z : A) → cond a (cond b z y) z ≡ cond b z (cond a y z)
  left_out true b y z = refl
  left_out false true y z = refl
  left_out false false y z = refl

  passed_over : {A : Type 0} (a b : Bool) (x y z : A) → (b ≡ true → a ≡ false) → cond a (cond b x y) z ≡ cond a y z
  passed_over true true x y z other = absurd (subst (λ c. cond c (Unit {0}) ⊥) (other refl) tt)
  passed_over true false x y z other = refl
  passed_over false b x y z other = refl

  module _ (m : FinMap key_cmp Stored) (key : KeyName) where
    own_inserted : (v : Stored) → belongs_to tx key ≡ true → finite.retain_keys (finite.insert m key v) (belongs_to tx) ≡ finite.insert (finite.retain_keys m (belongs_to tx)) key v
    own_inserted v own = finite.same_map key_total exact_keys _ _ (λ q.
        get_alone (finite.insert m key v) q
        ∙ ap (λ o. cond (belongs_to tx q) o None) (finite.get-insert key_total m key v q)
        ∙ chosen (belongs_to tx q) (eq_by_cmp key_cmp q key) (Some v) (finite.get m q) None (λ same. tied q key same ∙ own)
        ∙ ap (cond (eq_by_cmp key_cmp q key) (Some v)) (sym (get_alone m q))
        ∙ sym (finite.get-insert key_total (finite.retain_keys m (belongs_to tx)) key v q))

    own_removed : finite.retain_keys (finite.remove m key) (belongs_to tx) ≡ finite.remove (finite.retain_keys m (belongs_to tx)) key
    own_removed = finite.same_map key_total exact_keys _ _ (λ q.
        get_alone (finite.remove m key) q
        ∙ ap (λ o. cond (belongs_to tx q) o None) (finite.get-remove key_total m key q)
        ∙ left_out (belongs_to tx q) (eq_by_cmp key_cmp q key) (finite.get m q) None
        ∙ ap (cond (eq_by_cmp key_cmp q key) None) (sym (get_alone m q))
        ∙ sym (finite.get-remove key_total (finite.retain_keys m (belongs_to tx)) key q))

    own_marked : (voided : Bool) (o : Option Stored) → belongs_to tx key ≡ true → finite.retain_keys (marked_at m key voided o) (belongs_to tx) ≡ marked_at (finite.retain_keys m (belongs_to tx)) key voided o
    own_marked voided None own = refl
    own_marked voided (Some stored) own = own_inserted (record { event = stored.event; voided = voided }) own

    other_inserted : (v : Stored) → belongs_to tx key ≡ false → finite.retain_keys (finite.insert m key v) (belongs_to tx) ≡ finite.retain_keys m (belongs_to tx)
    other_inserted v other = finite.same_map key_total exact_keys _ _ (λ q.
        get_alone (finite.insert m key v) q
        ∙ ap (λ o. cond (belongs_to tx q) o None) (finite.get-insert key_total m key v q)
        ∙ passed_over (belongs_to tx q) (eq_by_cmp key_cmp q key) (Some v) (finite.get m q) None (λ same. tied q key same ∙ other)
        ∙ sym (get_alone m q))

    other_removed : belongs_to tx key ≡ false → finite.retain_keys (finite.remove m key) (belongs_to tx) ≡ finite.retain_keys m (belongs_to tx)
    other_removed other = finite.same_map key_total exact_keys _ _ (λ q.
        get_alone (finite.remove m key) q
        ∙ ap (λ o. cond (belongs_to tx q) o None) (finite.get-remove key_total m key q)
        ∙ passed_over (belongs_to tx q) (eq_by_cmp key_cmp q key) None (finite.get m q) None (λ same. tied q key same ∙ other)
        ∙ sym (get_alone m q))

    other_marked : (voided : Bool) (o : Option Stored) → belongs_to tx key ≡ false → finite.retain_keys (marked_at m key voided o) (belongs_to tx) ≡ finite.retain_keys m (belongs_to tx)
    other_marked voided None other = refl
    other_marked voided (Some stored) other = other_inserted (record { event = stored.event; voided = voided }) other

  -- an own command changes the events alone as it changes them among others
  pub own_events_after : (m : FinMap key_cmp Stored) (command : Command) → belongs_to tx (key_of command) ≡ true
      → finite.retain_keys (events_after m command) (belongs_to tx) ≡ events_after (finite.retain_keys m (belongs_to tx)) command
  own_events_after m (Deliver key event) own = own_inserted m key (record { event = event; voided = false }) own
  own_events_after m (Void key) own = own_marked m key true (finite.get m key) own ∙ ap (marked_at (finite.retain_keys m (belongs_to tx)) key true) (sym (get_own m key own))
  own_events_after m (Restore key) own = own_marked m key false (finite.get m key) own ∙ ap (marked_at (finite.retain_keys m (belongs_to tx)) key false) (sym (get_own m key own))
  own_events_after m (Erase key) own = own_removed m key

  -- a command on another transaction changes none of them
  pub other_events_after : (m : FinMap key_cmp Stored) (command : Command) → belongs_to tx (key_of command) ≡ false
      → finite.retain_keys (events_after m command) (belongs_to tx) ≡ finite.retain_keys m (belongs_to tx)
  other_events_after m (Deliver key event) other = other_inserted m key (record { event = event; voided = false }) other
  other_events_after m (Void key) other = other_marked m key true (finite.get m key) other
  other_events_after m (Restore key) other = other_marked m key false (finite.get m key) other
  other_events_after m (Erase key) other = other_removed m key other

  -- the entries alone are the own ones among all
  pub entries_alone : (m : FinMap key_cmp Stored) → finite.entries (finite.retain_keys m (belongs_to tx)) ≡ own_events tx (finite.entries m)
  entries_alone m =
      let sorted = is_sorted-where_key key_cmp (belongs_to tx) (finite.entries m) (finite.entries_sorted m) in
      same_entries key_cmp key_total exact_keys _ _ (finite.entries_sorted (finite.retain_keys m (belongs_to tx))) sorted (λ q.
      sym (finite.get-entries (finite.retain_keys m (belongs_to tx)) q)
      ∙ get_alone m q
      ∙ ap (λ o. cond (belongs_to tx q) o None) (finite.get-entries m q)
      ∙ sym (find-where_key key_cmp (belongs_to tx) q (alike q) (finite.entries m)))

  pub none_alone : alone tx 0 empty_content ≡ empty_content
  none_alone = ap (λ m. record { events = m; changes = 0 }) (finite.same_map key_total exact_keys _ _ (λ q.
      get_alone finite.empty q ∙ by_case (belongs_to tx q) (finite.get finite.empty q) (finite.get-empty key_cmp q)))
    where
      by_case : (b : Bool) (o : Option Stored) → o ≡ None → cond b o None ≡ o
      by_case true o none = refl
      by_case false o none = sym none

  -- one alone needs no more room
  pub has_own : (es : List Entry) → has_transaction tx (own_events tx es) ≡ has_transaction tx es
  has_own [] = refl
  has_own (e ∷ es) = by_case (bytes_eq tx e.0.tx) refl (has_own es)
    where
      by_case : (b : Bool) → bytes_eq tx e.0.tx ≡ b → has_transaction tx (own_events tx es) ≡ has_transaction tx es
          → has_transaction tx (cond b (e ∷ own_events tx es) (own_events tx es)) ≡ (b || has_transaction tx es)
      by_case true is rest = ap (λ c. c || has_transaction tx (own_events tx es)) is
      by_case false is rest = rest

  pub fewer_events : (es : List Entry) → length (own_events tx es) ≤ length es
  fewer_events es = let p : Entry → Bool = λ e. bytes_eq tx e.0.tx in omega (arith, length-filter p es, count_by-le-length p es)

  pub fewer_readings : (es : List Entry) → readings_stored (own_events tx es) ≤ readings_stored es
  fewer_readings es =
      let p : Entry → Bool = λ e. bytes_eq tx e.0.tx in
      let size : Entry → ℕ = λ e. length e.1.event.readings in
      omega (arith, sum_by-filter_both p (λ e. not (p e)) (λ e. refl) size es)

  pub fewer_transactions : (es : List Entry) → length (transactions_of (own_events tx es)) ≤ length (transactions_of es)
  fewer_transactions es = transactions-filter (λ e. bytes_eq tx e.0.tx) es
