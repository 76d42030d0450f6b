-- What a reached content holds: as much as the limits allow, and entries in range.
use Rattle.std.{proofs.Common.{◌≡◌, ℕ, zero, suc, ◌+◌, ◌<◌, ◌≤◌, Bool, true, false, not, ◌&&◌, cond, nat_le, List, [], ◌∷◌, ◌++◌, length, Some, refl, sym, ap, subst, ◌∙◌, arith}, specs.List.{filter, sum_by}, specs.Ordering.eq_by_cmp, specs.FinMap.{find, put, entries_sorted}, proofs.lemmas.List.length-map, proofs.lemmas.List.Filters.sum_by-filter_both, proofs.lemmas.List.Sums.{count_by-le-length, length-filter}, proofs.lemmas.Bool.{leb-false, ltb-false}}
use Rattle.std.specs.FinMap as finite
use Rattle.ledger_model.{specs.declared.command.Command.Command, specs.declared.command.Command.TheVariants.{Deliver, Void, Restore, Erase}, specs.declared.answer.Answer.Answer, specs.declared.answer.Answer.TheVariants.Accepted, specs.Key.{KeyName, key_cmp, IsKeyName}, specs.Event.{EventContent, IsEventContent}, specs.Limits.Bounds, specs.Content.{Content, Entry, Stored, entries, distinct, transactions_of, has_transaction}, specs.Entries.{IsRising, entries_marked, entries_marked_at, entries_without, entries_after}, specs.Admissible.IsAdmissible, specs.Step.{readings_stored, step, content_after, Reached}, specs.Laws.IsAccepted, proofs.Keys.key_total, proofs.Cuts.{behind, cut, cut_at, in_front, map_put_old}, proofs.SumLemmas.sum_by-map, proofs.Transactions.transactions-filter, proofs.ListedRuns.{entries_after_is, none_listed}, proofs.LedgerLemmas.{found_live, found_voided}, proofs.Deliveries.{room, grown, fresh}}

-- an entry whose key and event are in range
pub record IsEntry (e : Entry) : Type 0 where
  pub key : IsKeyName e.0
  pub event : IsEventContent e.1.event

abbrev pub AreEntries : List Entry → Type 0
AreEntries [] = Unit {0}
AreEntries (e ∷ es) = IsEntry e × AreEntries es

pub AreEntries-filter : (p : Entry → Bool) (es : List Entry) → AreEntries es → AreEntries (filter p es)
AreEntries-filter p [] h = tt
AreEntries-filter p (e ∷ es) h =
    let rest = AreEntries-filter p es h.1 in
    elim (p e) as (λ b. AreEntries (cond b (e ∷ filter p es) (filter p es))) [ true ↦ (h.0, rest) | false ↦ rest ]

AreEntries-append : (es fs : List Entry) → AreEntries es → AreEntries fs → AreEntries (es ++ fs)
AreEntries-append [] fs h k = k
AreEntries-append (e ∷ es) fs h k = (h.0, AreEntries-append es fs h.1 k)

AreEntries-put : (key : KeyName) (v : Stored) (es : List Entry) → IsRising es → IsKeyName key → IsEventContent v.event → AreEntries es → AreEntries (put key_cmp key v es)
AreEntries-put key v es rising k event h = subst AreEntries (sym ((cut key es rising).with_put v))
    (AreEntries-append (in_front key es) ((key, v) ∷ behind key es) (AreEntries-filter _ es h) (record { key = k; event = event }, AreEntries-filter _ es h))

-- an entry between others is in range
entry_at : (es : List Entry) (e : Entry) (fs : List Entry) → AreEntries (es ++ e ∷ fs) → IsEntry e
entry_at [] e fs h = h.0
entry_at (d ∷ es) e fs h = entry_at es e fs h.1

-- entries within the limits, each in range
pub record AreKept (limits : Bounds) (es : List Entry) : Type 0 where
  pub events : length es ≤ limits.events
  pub readings : readings_stored es ≤ limits.readings
  pub transactions : length (transactions_of es) ≤ limits.transactions
  pub in_range : AreEntries es

AreKept-none : (limits : Bounds) → AreKept limits []
AreKept-none limits = record { events = omega arith; readings = omega arith; transactions = omega arith; in_range = tt }

-- a transaction that is there already, or for which there is room
few_transactions : (limit n : ℕ) (has : Bool) → n ≤ limit → (not has && nat_le limit n) ≡ false → cond has n (n + 1) ≤ limit
few_transactions limit n true few h = few
few_transactions limit n false few h = let below : n < limit = leb-false limit n h in omega arith

module _ (limits : Bounds) (c : Content) (kept : AreKept limits (entries c)) where
  AreKept-deliver : (key : KeyName) (event : EventContent) → IsAdmissible (Deliver key event)
      → IsAccepted (step limits c (Deliver key event)).1 → AreKept limits (entries_after (entries c) (Deliver key event))
  AreKept-deliver key event may a =
      let r = room limits c (key, event) a in
      let g = grown c (key, event) r.new in
      let v : Stored = fresh (key, event) in
      let is : finite.entries (finite.insert c.events key v) ≡ put key_cmp key v (entries c) = finite.entries-insert key_total c.events key v in
      let events : length (entries c) < limits.events = leb-false limits.events _ r.events in
      let readings : readings_stored (entries c) + length event.readings ≤ limits.readings = ltb-false limits.readings _ r.readings in
      let few = few_transactions limits.transactions (length (transactions_of (entries c))) (has_transaction key.tx (entries c)) kept.transactions r.transactions in
      record {
        events = omega (arith, ap length is, g.events);
        readings = omega (arith, ap readings_stored is, g.readings);
        transactions = omega (arith, few, ap (λ es. length (transactions_of es)) is, g.transactions);
        in_range = AreEntries-put key v (entries c) (entries_sorted c.events) may.0 may.1 kept.in_range;
      }

  AreKept-mark : (key : KeyName) (voided : Bool) (s : Stored) → IsKeyName key → finite.get c.events key ≡ Some s → AreKept limits (entries_marked (entries c) key voided)
  AreKept-mark key voided s may found =
      let es = entries c in
      let rising : IsRising es = entries_sorted c.events in
      let v : Stored = record { event = s.event; voided = voided } in
      let is : find key_cmp key es ≡ Some s = sym (finite.get-entries c.events key) ∙ found in
      let marks : entries_marked es key voided ≡ put key_cmp key v es = ap (entries_marked_at es key voided) is in
      let size : Entry → ℕ = λ e. length e.1.event.readings in
      let ids = map_put_old key (λ (e : Entry). e.0.tx) v s es rising is refl in
      subst (AreKept limits) (sym marks) (record {
        events = omega (arith, length-map (put key_cmp key v es) (λ (e : Entry). e.0.tx), length-map es (λ (e : Entry). e.0.tx), ap length ids, kept.events);
        readings = omega (arith, sum_by-map (λ n. n) size (put key_cmp key v es), sum_by-map (λ n. n) size es, ap (sum_by (λ n. n)) (map_put_old key size v s es rising is refl), kept.readings);
        transactions = omega (arith, ap (λ ts. length (distinct ts)) ids, kept.transactions);
        in_range = AreEntries-put key v es rising may (entry_at (in_front key es) (key, s) (behind key es) (subst AreEntries (cut_at key s es rising is) kept.in_range)).event kept.in_range;
      })

  AreKept-erase : (key : KeyName) → AreKept limits (entries_without key (entries c))
  AreKept-erase key =
      let es = entries c in
      let p : Entry → Bool = λ e. not (eq_by_cmp key_cmp key e.0) in
      let size : Entry → ℕ = λ e. length e.1.event.readings in
      record {
        events = omega (arith, length-filter p es, count_by-le-length p es, kept.events);
        readings = omega (arith, sum_by-filter_both p (λ e. not (p e)) (λ e. refl) size es, kept.readings);
        transactions = omega (arith, transactions-filter p es, kept.transactions);
        in_range = AreEntries-filter p es kept.in_range;
      }

  AreKept-after : (command : Command) → IsAdmissible command → IsAccepted (step limits c command).1 → AreKept limits (entries_after (entries c) command)
  AreKept-after (Deliver key event) may a = AreKept-deliver key event may a
  AreKept-after (Void key) may a = let f = found_live limits c (finite.get c.events key) a in AreKept-mark key true f.stored may f.found
  AreKept-after (Restore key) may a = let f = found_voided limits c (finite.get c.events key) a in AreKept-mark key false f.stored may f.found
  AreKept-after (Erase key) may a = AreKept-erase key

-- a reached content is within the limits
pub AreKept-reached : (limits : Bounds) (n : ℕ) (c : Content) → Reached limits n c → AreKept limits (entries c)
AreKept-reached limits zero c h = subst (λ (d : Content). AreKept limits (entries d)) (sym h) (subst (AreKept limits) (sym none_listed) (AreKept-none limits))
AreKept-reached limits (suc n) c h =
    let before = h.0 in
    let command = h.1 in
    let kept = AreKept-reached limits n before h.2.1 in
    let accepted : (step limits before command).1 ≡ Accepted (suc n) = ap (λ (p : Content × Answer). p.1) h.2.2 in
    let told : IsAccepted (step limits before command).1 = subst IsAccepted (sym accepted) tt in
    let is : c ≡ content_after before command (Accepted (suc n)) = sym (ap (λ (p : Content × Answer). p.0) h.2.2) ∙ ap (content_after before command) accepted in
    subst (AreKept limits) (sym (ap entries is ∙ entries_after_is before.events command)) (AreKept-after limits before kept command h.2.0 told)
