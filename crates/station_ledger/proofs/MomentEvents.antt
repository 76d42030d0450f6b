-- The readings by moment once an event's came or went.
use Rattle.std.{proofs.Common.{◌≡◌, ◌==◌, ℕ, ◌≤◌, true, false, not, List, [], Option, Some, None, is_some, length, refl, sym, ap, subst, ◌∙◌, ⊎_elim, arith, vec_capacity}, specs.List.flat_map, specs.Str.bytes_eq, specs.Ordering.eq_by_cmp, proofs.lemmas.Bool.Decides.nat_tests, proofs.lemmas.Bool.{cases_eq, cases_Bool}, proofs.lemmas.Slice.Eq.bytes_eq-Decides, proofs.lemmas.List.nil_from_length}
use Rattle.transaction_map.{specs.Map.id_cmp, proofs.Rising.equal_ids}
use Rattle.event_chain.{specs.declared.row.TableRow.TableRow, specs.Table.{Table, row_of}}
use Rattle.event_chain.specs.Table as table
use Rattle.ledger_model.{specs.declared.reading.Direction.Direction, specs.Content.{Entry, live, live_of, transactions_of}, specs.InTime.in_time, specs.Limits.Bounds, specs.Ranges.most_event_readings}
use Rattle.reading_index.{specs.Ranks.owner, specs.Timed.{Timed, AreRising, owned}}
use Rattle.station_ledger.{specs.ByMoment.{live_readings, ranked, timed_of, AreByMoment, IsSlotGiven}, specs.declared.by_moment.ByMoment.ByMoment, proofs.MomentRanks.at}

same_id : (u tx : List ℕ) → bytes_eq u tx ≡ true → u ≡ tx
same_id u tx is = (bytes_eq-Decides u tx).0 is

-- Ids that are different do not tie.
pub not_tied : (u tx : List ℕ) → bytes_eq u tx ≡ false → eq_by_cmp id_cmp u tx ≡ false
not_tied u tx e = grind (arith, e, bytes_eq-Decides u tx, equal_ids u tx)

none_alive : (es : List Entry) → not (length es == 0) ≡ false → es ≡ []
none_alive es h = grind (arith, nat_tests, nil_from_length es, h)

-- Nothing is under the slot of a transaction without a live event.
pub none_timed : (slot : ℕ) (d : Direction) (tx : List ℕ) (es : List Entry) → live_of tx es ≡ [] → timed_of slot d tx es ≡ []
none_timed slot d tx es none = ap (λ (l : List Entry). in_time at (flat_map (ranked slot d) l)) none

-- The readings of one transaction changed, under its slot, and no others: the index before and after.
pub record IsTurned (tx : List ℕ) (slot : ℕ) (es new : List Entry) (entries next : List Timed) : Type 0 where
  pub own : (d : Direction) → owned (owner slot d) next ≡ timed_of slot d tx new
  pub others : (d : Direction) (s : ℕ) → (slot ≡ s → ⊥) → owned (owner s d) next ≡ owned (owner s d) entries
  pub same : (s : ℕ) (d : Direction) (u : List ℕ) → bytes_eq u tx ≡ false → timed_of s d u new ≡ timed_of s d u es
  pub alive : (u : List ℕ) → bytes_eq u tx ≡ false → live_of u new ≡ live_of u es
  pub ranked_next : AreRising next

module _ {limits : Bounds} {tx : List ℕ} {es : List Entry} {b : ByMoment} (timed : AreByMoment limits es b) {slots : Table} {slot : ℕ} (given : IsSlotGiven tx b.slots slots slot) where
  -- what is under the slot before
  pub side_before : (d : Direction) → owned (owner slot d) b.index.entries ≡ timed_of slot d tx es
  side_before d = at_row (row_of tx b.slots.rows) refl
    where
      at_row : (o : Option TableRow) → row_of tx b.slots.rows ≡ o → owned (owner slot d) b.index.entries ≡ timed_of slot d tx es
      at_row None none = timed.spare d slot (given.fresh none) ∙ sym (none_timed slot d tx es (none_alive (live_of tx es) (sym (timed.slots.each tx) ∙ ap is_some none)))
      at_row (Some row) some = subst (λ s. owned (owner s d) b.index.entries ≡ timed_of s d tx es) (given.kept row some) (timed.held d tx row some)

module _ {limits : Bounds} {tx : List ℕ} {es new : List Entry} {b : ByMoment} (timed : AreByMoment limits es b) {slots : Table}
    {slot : ℕ} (given : IsSlotGiven tx b.slots slots slot) (apart : table.AreApart slots.rows) {next : List Timed}
    (turned : IsTurned tx slot es new b.index.entries next) where
  -- with a live event the transaction keeps its slot, and without one it gives it back
  pub by_moment_then : (after : ByMoment) → ((u : List ℕ) → bytes_eq u tx ≡ false → row_of u after.slots.rows ≡ row_of u slots.rows)
      → is_some (row_of tx after.slots.rows) ≡ not (length (live_of tx new) == 0)
      → ((row : TableRow) → row_of tx after.slots.rows ≡ Some row → given.row ≡ row)
      → after.slots.capacity ≡ slots.capacity → after.index.entries ≡ next → after.index.capacity ≡ b.index.capacity
      → most_event_readings ≤ vec_capacity after.listed → length after.slots.rows ≡ length (transactions_of (live new)) → length next ≤ live_readings new
      → AreByMoment limits new after
  by_moment_then after left each own cap e index_cap room number few = record {
    slots = record {
      each = λ u. grind (arith, each, same_id u tx, left u, given.others u, timed.slots.each u, turned.alive u);
      number = number;
      room = cap ∙ given.capacity ∙ timed.slots.room;
    };
    held = λ d u row there. ap (owned (owner row.slot d)) e ∙ ⊎_elim
        (λ (is : bytes_eq u tx ≡ true).
        let at_slot : slot ≡ row.slot = sym given.is ∙ ap (λ (r : TableRow). r.slot) (own row (ap (λ t. row_of t after.slots.rows) (sym (same_id u tx is)) ∙ there)) in
        subst (λ s. owned (owner s d) next ≡ timed_of s d u new) at_slot (turned.own d ∙ ap (λ t. timed_of slot d t new) (sym (same_id u tx is))))
        (λ (other : bytes_eq u tx ≡ false).
        let now : row_of u slots.rows ≡ Some row = sym (left u other) ∙ there in
        turned.others d row.slot (λ same. let one = apart u tx row given.row now given.there (sym same ∙ sym given.is) in grind (arith, other, bytes_eq-Decides u tx, one))
        ∙ timed.held d u row (sym (given.others u other) ∙ now) ∙ sym (turned.same row.slot d u other))
        (cases_Bool (bytes_eq u tx));
    spare = λ d s fresh. ap (owned (owner s d)) e ∙ ⊎_elim
        (λ (same : slot ≡ s). subst (λ x. owned (owner x d) next ≡ []) same
        (turned.own d ∙ none_timed slot d tx new (gone (row_of tx after.slots.rows) refl (λ row there at_slot. fresh tx row there (at_slot ∙ same)))))
        (λ (other : slot ≡ s → ⊥). turned.others d s other ∙ timed.spare d s (λ u row there at_s. ⊎_elim
        (λ (is : bytes_eq u tx ≡ true). other (sym (given.kept row (ap (λ t. row_of t b.slots.rows) (sym (same_id u tx is)) ∙ there)) ∙ at_s))
        (λ (apart_u : bytes_eq u tx ≡ false). fresh u row (left u apart_u ∙ given.others u apart_u ∙ there) at_s)
        (cases_Bool (bytes_eq u tx))))
        (cases_eq slot s);
    in_order = subst AreRising (sym e) turned.ranked_next;
    few = subst (λ (l : List Timed). length l ≤ live_readings new) (sym e) few;
    room = index_cap ∙ timed.room;
    list_room = room;
  }
    where
      gone : (o : Option TableRow) → row_of tx after.slots.rows ≡ o → ((row : TableRow) → row_of tx after.slots.rows ≡ Some row → row.slot ≡ slot → ⊥) → live_of tx new ≡ []
      gone None none fresh = none_alive (live_of tx new) (sym each ∙ ap is_some none)
      gone (Some row) some fresh = absurd (fresh row some (sym (ap (λ (r : TableRow). r.slot) (own row some)) ∙ given.is))
