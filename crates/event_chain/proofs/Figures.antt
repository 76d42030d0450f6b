-- What is counted of each transaction, under a change of an event.
use Rattle.std.{proofs.lemmas.Grind.common_steps, proofs.Common.{◌≡◌, ℕ, true, false, not, cond, ◌&&◌, List, [], ◌∷◌, Option, Some, None, map, sum_by, refl, sym, ap, ◌∙◌, subst, arith, inl, inr, ◌⊎◌}, specs.Str.bytes_eq, proofs.lemmas.Slice.Eq.bytes_eq-Decides, specs.Ordering.eq_by_cmp, specs.FinMap.find, proofs.lemmas.List.Sums.{sum_by-cons, sum_by-append}}
use Rattle.ledger_model.{specs.Key.{KeyName, key_cmp}, specs.Content.{Entry, Stored}, specs.Entries.IsRising}
use Rattle.event_store.specs.Slots.{Held}
use Rattle.event_chain.{specs.declared.row.TableRow.TableRow, specs.Table.{TxRow, id_cmp, row_of}, specs.Flat.{EventPlace, entry_of, segment, entries_of, flat}, specs.Kept.{live_one, end_one, is_end, IsFigured, AreFigured, IsNew}, proofs.Changes.IsChange, proofs.Decided.{id_test, not_so, denied}, proofs.Looks.{live_in, end_in, IsTurned}, proofs.Sums.{at_key, sum_change}}

module _ (f : Entry → ℕ) (tx : List ℕ) (zero_if : (e : Entry) → bytes_eq tx e.0.tx ≡ false → f e ≡ 0) where
  -- Events of another transaction count nothing.
  none_entries : (other : List ℕ) (slots : List (Option Held)) (ps : List EventPlace) → bytes_eq tx other ≡ false → sum_by f (map (entry_of other slots) ps) ≡ 0
  none_entries other slots [] apart = refl
  none_entries other slots (p ∷ ps) apart =
      omega (arith, sum_by-cons f (entry_of other slots p) (map (entry_of other slots) ps), zero_if (entry_of other slots p) apart, none_entries other slots ps apart)

  -- Where the transaction is absent, nothing counts.
  pub none_flat : (rows : List TxRow) (es : List EventPlace) (slots : List (Option Held)) → row_of tx rows ≡ None → sum_by f (flat rows es slots) ≡ 0
  none_flat [] es slots absent = refl
  none_flat (r ∷ rows) es slots absent =
      elim (eq_by_cmp id_cmp tx r.0) as (λ b. eq_by_cmp id_cmp tx r.0 ≡ b → cond b (Some r.1) (row_of tx rows) ≡ None → sum_by f (flat (r ∷ rows) es slots) ≡ 0) [
        | true ↦ λ _ some. cc
        | false ↦ λ e none. omega (
          arith,
          sum_by-append f (entries_of es slots r) (flat rows es slots),
          none_flat rows es slots none,
          none_entries r.0 slots (segment r.1.slot es) (not_so _ (bytes_eq-Decides tx r.0) (denied _ (id_test tx r.0) e)),
        )
      ] refl absent

-- An event of another transaction counts nothing.
pub live_zero : (tx : List ℕ) (e : Entry) → bytes_eq tx e.0.tx ≡ false → live_one tx e ≡ 0
live_zero tx e apart = ap (λ b. cond {A = ℕ} (b && not e.1.voided) 1 0) apart

-- Nor as an end.
pub end_zero : (tx : List ℕ) (e : Entry) → bytes_eq tx e.0.tx ≡ false → end_one tx e ≡ 0
end_zero tx e apart = ap (λ b. cond {A = ℕ} (b && not e.1.voided && is_end e.1.event.kind) 1 0) apart

-- What is counted of a transaction before a change, where it may be new.
pub known_figures : (rows : List TxRow) (es : List EventPlace) (slots : List (Option Held)) (tx : List ℕ) (row : TableRow)
    → (row_of tx rows ≡ Some row) ⊎ IsNew rows tx row → AreFigured rows (flat rows es slots) → IsFigured rows (flat rows es slots) tx row
known_figures rows es slots tx row known figured = elim known [
  | inl is ↦ figured tx row is
  | inr new ↦ record {
    live = new.none_live ∙ sym (none_flat (live_one tx) tx (live_zero tx) rows es slots new.absent);
    ends = new.no_ends ∙ sym (none_flat (end_one tx) tx (end_zero tx) rows es slots new.absent);
  }
]

-- An event counts as live for its transaction.
pub live_mine : (key : KeyName) (o : Option Stored) → at_key (live_one key.tx) key o ≡ live_in o
live_mine key o = grind (arith, common_steps, bytes_eq-Decides)

-- And as an end.
pub end_mine : (key : KeyName) (o : Option Stored) → at_key (end_one key.tx) key o ≡ end_in o
end_mine key o = grind (arith, common_steps, bytes_eq-Decides)

-- What counts nothing of a key counts nothing there.
key_zero : (f : Entry → ℕ) (key : KeyName) (o : Option Stored) → ((s : Stored) → f (key, s) ≡ 0) → at_key f key o ≡ 0
key_zero f key o zero_all = grind (arith, common_steps)

-- The counts after a change.
pub figured_change : (rows new : List TxRow) (es more : List EventPlace) (slots : List (Option Held)) (all : List Entry) (key : KeyName) (row : TableRow) (was now : Option Stored)
    → AreFigured rows (flat rows es slots) → IsRising (flat rows es slots) → (row_of key.tx rows ≡ Some row) ⊎ IsNew rows key.tx row
    → IsTurned rows new more key.tx row was now → find key_cmp key (flat rows es slots) ≡ was → IsChange key_cmp key now (flat rows es slots) all → AreFigured new all
figured_change rows new es more slots all key row was now figured rising known turn found change q of is =
    let old = flat rows es slots in
    elim (eq_by_cmp id_cmp q key.tx) as (λ b. eq_by_cmp id_cmp q key.tx ≡ b → IsFigured new all q of) [
      | true ↦ λ e.
          let same = (id_test q key.tx).0 e in let at = sym (ap (λ k. row_of k new) same) ∙ is in let before = known_figures rows es slots key.tx row known figured in
          let l = live_one key.tx in let d = end_one key.tx in
          subst (λ k. IsFigured new all k of) (sym same) (record {
            live = omega (arith, turn.live of at, before.live, sum_change l key now old all change rising, ap (at_key l key) found, live_mine key was, live_mine key now);
            ends = omega (arith, turn.ends of at, before.ends, sum_change d key now old all change rising, ap (at_key d key) found, end_mine key was, end_mine key now);
          })
      | false ↦ λ e.
          let other = denied _ (id_test q key.tx) e in let apart = not_so _ (bytes_eq-Decides q key.tx) other in let before = figured q of (sym (turn.others q other) ∙ is) in
          let none_live = λ (o : Option Stored). key_zero (live_one q) key o (λ s. live_zero q (key, s) apart) in
          let no_ends = λ (o : Option Stored). key_zero (end_one q) key o (λ s. end_zero q (key, s) apart) in
          record {
            live = omega (arith, before.live, none_live (find key_cmp key old), none_live now, sum_change (live_one q) key now old all change rising);
            ends = omega (arith, before.ends, no_ends (find key_cmp key old), no_ends now, sum_change (end_one q) key now old all change rising);
          }
    ] refl
