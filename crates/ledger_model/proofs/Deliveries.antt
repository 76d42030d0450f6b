-- Two deliveries that are accepted are accepted the other way round, and leave the same.
use Rattle.std.{proofs.Common.{◌≡◌, ℕ, ◌+◌, ◌≤◌, Bool, true, false, cond, not, ◌&&◌, ◌||◌, List, ◌∷◌, ◌++◌, Option, Some, None, length, sum_by, refl, ap, sym, subst, ◌∙◌, nat_le, nat_lt, bytes_eq, arith, IsPermutation, true≢false}, specs.Ordering.eq_by_cmp, specs.List.list_any, specs.Cmp.eq_by_cmp_equiv, specs.FinMap.FinMap, proofs.lemmas.Bool.{ltb-false, le-ltb}, proofs.lemmas.Cmp.nat_list_eq_equiv, proofs.lemmas.List.length-append, proofs.lemmas.List.Folds.list_any-append, proofs.lemmas.List.Sums.{sum_by-append, sum_by-cons}, proofs.lemmas.Slice.Eq.bytes_eq-Decides}
use Rattle.std.specs.FinMap as finite
use Rattle.ledger_model.{specs.declared.command.Command.Command, specs.declared.command.Command.TheVariants.Deliver, specs.declared.answer.Answer.Answer, specs.declared.answer.Answer.TheVariants.{Accepted, Repeat, Refused}, specs.declared.answer.Refusal.TheVariants.{ConflictingEvent, TooManyTransactions, EventsFull, ReadingsFull, ChangesExhausted}, specs.Key.{KeyName, key_cmp}, specs.Event.same_event, specs.Limits.Bounds, specs.Content.{Content, Stored, Entry, entries, transactions_of, has_transaction}, specs.Step.{step, answer, answer_to_deliver, readings_stored, content_after}, specs.Laws.{DeliversTheSame, IsAccepted, AreAccepted, left_by, Sent, deliveries}, proofs.Cuts.{at_key, behind, cut, in_front}, proofs.Keys.{key_total, exact_keys}, proofs.LedgerLemmas.not_refused, proofs.Transactions.transactions_added, proofs.Exchanges.{IsKeptByExchanges, of_permutation}}

abbrev pub fresh : Sent → Stored
fresh d = record { event = d.1; voided = false }

-- the content with one delivery more
abbrev pub delivered : Content → Sent → Content
delivered c d = record { events = finite.insert c.events d.0 (fresh d); changes = c.changes + 1 }

-- there is room for a delivery
pub record Room (limits : Bounds) (c : Content) (d : Sent) : Type 0 where
  pub new : finite.get c.events d.0 ≡ None
  pub transactions : (not (has_transaction d.0.tx (entries c)) && nat_le limits.transactions (length (transactions_of (entries c)))) ≡ false
  pub events : nat_le limits.events (length (entries c)) ≡ false
  pub readings : nat_lt limits.readings (readings_stored (entries c) + length d.1.readings) ≡ false
  pub changes : nat_le limits.changes c.changes ≡ false

unaccepted : (b : Bool) → IsAccepted (cond b Repeat (Refused ConflictingEvent)) → ⊥
unaccepted true h = h
unaccepted false h = h

module _ (limits : Bounds) (c : Content) (d : Sent) where
  room_by : (o : Option Stored) → finite.get c.events d.0 ≡ o → IsAccepted (answer_to_deliver limits c d.0 d.1 o) → Room limits c d
  room_by (Some s) e h = absurd (unaccepted (same_event s.event d.1) h)
  room_by None e h =
      let a = not_refused (not (has_transaction d.0.tx (entries c)) && nat_le limits.transactions (length (transactions_of (entries c)))) TooManyTransactions _ h in
      let b = not_refused (nat_le limits.events (length (entries c))) EventsFull _ a.1 in
      let r = not_refused (nat_lt limits.readings (readings_stored (entries c) + length d.1.readings)) ReadingsFull _ b.1 in
      let n = not_refused (nat_le limits.changes c.changes) ChangesExhausted (Accepted (c.changes + 1)) r.1 in
      record { new = e; transactions = a.0; events = b.0; readings = r.0; changes = n.0 }

  -- an accepted delivery had room
  pub room : IsAccepted (step limits c (Deliver d.0 d.1)).1 → Room limits c d
  room h = room_by (finite.get c.events d.0) refl h

  -- a delivery with room is accepted
  pub told : Room limits c d → ◌≡◌ {A = Content × Answer} (step limits c (Deliver d.0 d.1)) (delivered c d, Accepted (c.changes + 1))
  told r =
      let is : answer limits c (Deliver d.0 d.1) ≡ Accepted (c.changes + 1) =
      ap (answer_to_deliver limits c d.0 d.1) r.new
      ∙ (λ i. cond (r.transactions i) (Refused TooManyTransactions)
      (cond (r.events i) (Refused EventsFull) (cond (r.readings i) (Refused ReadingsFull) (cond (r.changes i) (Refused ChangesExhausted) (Accepted (c.changes + 1)))))) in
      ap (λ a. (content_after c (Deliver d.0 d.1) a, a)) is

  pub accepted_with : Room limits c d → (commands : List Command) → AreAccepted limits (delivered c d) commands → AreAccepted limits c (Deliver d.0 d.1 ∷ commands)
  accepted_with r commands h = subst (λ (p : Content × Answer). IsAccepted p.1 × AreAccepted limits p.0 commands) (sym (told r)) (tt, h)

  pub accepted_then : Room limits c d → (commands : List Command) → AreAccepted limits c (Deliver d.0 d.1 ∷ commands) → AreAccepted limits (delivered c d) commands
  accepted_then r commands h = subst (λ (p : Content × Answer). AreAccepted limits p.0 commands) (told r) h.1

  pub left_with : Room limits c d → (commands : List Command) → left_by limits c (Deliver d.0 d.1 ∷ commands) ≡ left_by limits (delivered c d) commands
  left_with r commands = ap (λ (p : Content × Answer). left_by limits p.0 commands) (told r)

-- what a delivery of a new key adds
pub record Grown (c : Content) (d : Sent) : Type 0 where
  pub events : length (entries (delivered c d)) ≡ length (entries c) + 1
  pub readings : readings_stored (entries (delivered c d)) ≡ readings_stored (entries c) + length d.1.readings
  pub has : (tx : List ℕ) → has_transaction tx (entries (delivered c d)) ≡ (bytes_eq tx d.0.tx || has_transaction tx (entries c))
  pub transactions : length (transactions_of (entries (delivered c d))) ≡ cond (has_transaction d.0.tx (entries c)) (length (transactions_of (entries c))) (length (transactions_of (entries c)) + 1)

or_swap : (a b c : Bool) → (a || (b || c)) ≡ (b || (a || c))
or_swap true true c = refl
or_swap true false c = refl
or_swap false b c = refl

length_between : (front back : List Entry) (e : Entry) → length (front ++ e ∷ back) ≡ length (front ++ back) + 1
length_between front back e = omega (arith, length-append front (e ∷ back), length-append front back)

pub sum_between : (f : Entry → ℕ) (front back : List Entry) (e : Entry) → sum_by f (front ++ e ∷ back) ≡ sum_by f (front ++ back) + f e
sum_between f front back e = omega (arith, sum_by-append f front (e ∷ back), sum_by-cons f e back, sum_by-append f front back)

any_between : (p : Entry → Bool) (front back : List Entry) (e : Entry) → list_any p (front ++ e ∷ back) ≡ (p e || list_any p (front ++ back))
any_between p front back e =
    list_any-append p front (e ∷ back) ∙ or_swap (list_any p front) (p e) (list_any p back) ∙ ap (λ b. p e || b) (sym (list_any-append p front back))

pub grown : (c : Content) (d : Sent) → finite.get c.events d.0 ≡ None → Grown c d
grown c d new =
    let front = in_front d.0 (entries c) in
    let back = behind d.0 (entries c) in
    let parts = cut d.0 (entries c) (finite.entries_sorted c.events) in
    let e : Entry = (d.0, fresh d) in
    let is : entries (delivered c d) ≡ front ++ e ∷ back = finite.entries-insert key_total c.events d.0 (fresh d) ∙ parts.with_put (fresh d) in
    let was : front ++ back ≡ entries c = sym (parts.all ∙ ap (λ o. front ++ (at_key d.0 o ++ back)) (sym (finite.get-entries c.events d.0) ∙ new)) in
    let readings_of_one = λ (e : Entry). length e.1.event.readings in
    record {
      events = ap length is ∙ length_between front back e ∙ ap (λ es. length es + 1) was;
      readings = ap readings_stored is ∙ sum_between readings_of_one front back e ∙ ap (λ es. readings_stored es + length d.1.readings) was;
      has = λ tx. ap (has_transaction tx) is ∙ any_between (λ (e : Entry). bytes_eq tx e.0.tx) front back e ∙ ap (λ es. bytes_eq tx d.0.tx || has_transaction tx es) was;
      transactions = ap (λ es. length (transactions_of es)) is ∙ transactions_added front back e
          ∙ ap (λ es. cond (has_transaction d.0.tx es) (length (transactions_of es)) (length (transactions_of es) + 1)) was;
    }

record Exchanged (limits : Bounds) (c : Content) (x y : Sent) : Type 0 where
  second : Room limits c y
  first : Room limits (delivered c y) x
  same : delivered (delivered c x) y ≡ delivered (delivered c y) x

cond_none : (b : Bool) (s : Stored) (o : Option Stored) → cond b (Some s) o ≡ None → (b ≡ false) × (o ≡ None)
cond_none true s o h = cc
cond_none false s o h = (refl, h)

-- the rule of transactions, the other way round: y has the transaction of x, or another
transactions_exchanged : (limit n : ℕ) (same hx hy : Bool) → (same ≡ true → hx ≡ hy) → (not hx && nat_le limit n) ≡ false
    → (not (same || hy) && nat_le limit (cond hx n (n + 1))) ≡ false
    → ((not hy && nat_le limit n) ≡ false) × ((not (same || hx) && nat_le limit (cond hy n (n + 1))) ≡ false)
transactions_exchanged limit n same true true alike p q = (refl, q)
transactions_exchanged limit n true true false alike p q = absurd (true≢false (alike refl))
transactions_exchanged limit n false true false alike p q = (q, refl)
transactions_exchanged limit n true false true alike p q = (refl, refl)
transactions_exchanged limit n false false true alike p q = (refl, p)
transactions_exchanged limit n true false false alike p q = (p, refl)
transactions_exchanged limit n false false false alike p q = (p, q)

-- the rule of readings, the other way round
readings_exchanged : (limit stored one other : ℕ) → nat_lt limit (stored + one + other) ≡ false → (nat_lt limit (stored + other) ≡ false) × (nat_lt limit (stored + other + one) ≡ false)
readings_exchanged limit stored one other h =
    let most : stored + one + other ≤ limit = ltb-false limit (stored + one + other) h in
    (le-ltb limit (stored + other) (omega arith), le-ltb limit (stored + other + one) (omega arith))

turned : {A : Type 0} (a b : Bool) (x y z : A) → (a ≡ true → b ≡ false) → cond a x (cond b y z) ≡ cond b y (cond a x z)
turned true b x y z apart = ap (λ b. cond b y x) (sym (apart refl))
turned false b x y z apart = refl

exchanged : (limits : Bounds) (c : Content) (x y : Sent) → Room limits c x → Room limits (delivered c x) y → Exchanged limits c x y
exchanged limits c x y rx ry =
    let es = entries c in
    let n = cond_none (eq_by_cmp key_cmp y.0 x.0) (fresh x) (finite.get c.events y.0) (sym (finite.get-insert key_total c.events x.0 (fresh x) y.0) ∙ ry.new) in
    let gx = grown c x rx.new in
    let gy = grown c y n.1 in
    let t = transactions_exchanged limits.transactions (length (transactions_of es)) (bytes_eq y.0.tx x.0.tx) (has_transaction x.0.tx es) (has_transaction y.0.tx es)
    (λ e. ap (λ tx. has_transaction tx es) (sym ((bytes_eq-Decides y.0.tx x.0.tx).0 e)))
    rx.transactions
    (sym (λ i. not (gx.has y.0.tx i) && nat_le limits.transactions (gx.transactions i)) ∙ ry.transactions) in
    let r = readings_exchanged limits.readings (readings_stored es) (length x.1.readings) (length y.1.readings)
    (ap (λ n. nat_lt limits.readings (n + length y.1.readings)) (sym gx.readings) ∙ ry.readings) in
    record {
      second = record { new = n.1; transactions = t.0; events = rx.events; readings = r.0; changes = rx.changes };
      first = record {
        new = finite.get-insert key_total c.events y.0 (fresh y) x.0
            ∙ ap (λ b. cond b (Some (fresh y)) (finite.get c.events x.0)) ((eq_by_cmp_equiv key_total).symm x.0 y.0 ∙ n.0)
            ∙ rx.new;
        transactions = (λ i. not (gy.has x.0.tx i) && nat_le limits.transactions (gy.transactions i))
            ∙ ap (λ b. not (b || has_transaction x.0.tx es) && nat_le limits.transactions (cond (has_transaction y.0.tx es) (length (transactions_of es)) (length (transactions_of es) + 1)))
            (nat_list_eq_equiv.symm x.0.tx y.0.tx)
            ∙ t.1;
        events = ap (nat_le limits.events) (gy.events ∙ sym gx.events) ∙ ry.events;
        readings = ap (λ n. nat_lt limits.readings (n + length x.1.readings)) gy.readings ∙ r.1;
        changes = ry.changes;
      };
      same =
          let q_same = λ (q : KeyName).
          finite.get-insert key_total (finite.insert c.events x.0 (fresh x)) y.0 (fresh y) q
          ∙ ap (cond (eq_by_cmp key_cmp q y.0) (Some (fresh y))) (finite.get-insert key_total c.events x.0 (fresh x) q)
          ∙ turned (eq_by_cmp key_cmp q y.0) (eq_by_cmp key_cmp q x.0) (Some (fresh y)) (Some (fresh x)) (finite.get c.events q)
          (λ e. (eq_by_cmp_equiv key_total).congr q y.0 x.0 e ∙ n.0)
          ∙ ap (cond (eq_by_cmp key_cmp q x.0) (Some (fresh x))) (sym (finite.get-insert key_total c.events y.0 (fresh y) q))
          ∙ sym (finite.get-insert key_total (finite.insert c.events y.0 (fresh y)) x.0 (fresh x) q) in
          ap (λ (m : FinMap key_cmp Stored). record { events = m; changes = c.changes + 1 + 1 }) (finite.same_map key_total exact_keys _ _ q_same);
    }

module _ (limits : Bounds) where
  abbrev Reordered : List Sent → List Sent → Type 0
  Reordered one other = (c : Content) → AreAccepted limits c (deliveries one) → AreAccepted limits c (deliveries other) × (left_by limits c (deliveries other) ≡ left_by limits c (deliveries one))

  first_two : (x y : Sent) (ds : List Sent) → Reordered (x ∷ y ∷ ds) (y ∷ x ∷ ds)
  first_two x y ds c h =
      let rest = deliveries ds in
      let rx = room limits c x h.0 in
      let hx = accepted_then limits c x rx (deliveries (y ∷ ds)) h in
      let ry = room limits (delivered c x) y hx.0 in
      let hy = accepted_then limits (delivered c x) y ry rest hx in
      let e = exchanged limits c x y rx ry in (
        accepted_with limits c y e.second (deliveries (x ∷ ds)) (accepted_with limits (delivered c y) x e.first rest (subst (λ (d : Content). AreAccepted limits d rest) e.same hy)),
        left_with limits c y e.second (deliveries (x ∷ ds)) ∙ left_with limits (delivered c y) x e.first rest
            ∙ ap (λ (d : Content). left_by limits d rest) (sym e.same)
            ∙ sym (left_with limits c x rx (deliveries (y ∷ ds)) ∙ left_with limits (delivered c x) y ry rest),
      )

  reordered : IsKeptByExchanges Reordered
  reordered = record {
    same = λ ds c h. (h, refl);
    joined = λ ds es fs f g c h. let a = f c h in let b = g c a.0 in (b.0, b.1 ∙ a.1);
    behind = λ d ds es f c h. let a = f (step limits c (Deliver d.0 d.1)).0 h.1 in ((h.0, a.0), a.1);
    first_two = first_two;
  }

  each_order : (one other : List Sent) → IsPermutation one other → Reordered one other
  each_order one other p = of_permutation Reordered reordered one other p

-- Deliveries in another order are accepted too, and leave the same.
pub each_order_delivers : (limits : Bounds) (c : Content) (one other : List Sent) → IsPermutation one other → AreAccepted limits c (deliveries one) → DeliversTheSame limits c one other
each_order_delivers limits c one other p h = let both = each_order limits one other p c h in record { accepted = both.0; content = both.1 }
