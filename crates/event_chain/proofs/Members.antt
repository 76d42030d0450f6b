-- What holds of each place of an index.
use Rattle.std.{proofs.lemmas.Grind.common_steps, proofs.Common.{arith, ◌≡◌, ℕ, ◌/◌, ◌^◌, ◌==◌, Bool, true, false, cond, List, [], ◌∷◌, Option, Some, None, is_some, slice_get, sym, ap, ◌∙◌, subst}, specs.List.filter, specs.Ordering.nat_cmp}
use Rattle.slot_arena.specs.Arena.{IsHeld}
use Rattle.key_index.{specs.Entries.last_of, proofs.Orders.last_cons}
use Rattle.ledger_model.{specs.Content.Stored, proofs.Callers.second}
use Rattle.event_store.specs.Slots.{Held}
use Rattle.event_chain.{specs.declared.row.TableRow.TableRow, specs.Table.TxRow, specs.Flat.{EventPlace, place_of, stored_at, segment}, specs.Kept.{AreRanks, IsSub, IsKeyed, chosen}, specs.Edits.{IsStored, first_under, last_under}, proofs.Changes.{find_first, find_rest}, proofs.Decided.rank_test, proofs.Lives.chosen_place}

-- Each place of the list is so.
abbrev pub AllPlaces : (EventPlace → Type 0) → List EventPlace → Type 0
AllPlaces P [] = Unit {0}
AllPlaces P (p ∷ ps) = P p × AllPlaces P ps

-- What holds of each place that is found holds of all.
pub all_found : (P : EventPlace → Type 0) (ps : List EventPlace) → AreRanks ps → ((p : EventPlace) → place_of p.0 ps ≡ Some p.1 → P p) → AllPlaces P ps
all_found P [] h each = tt
all_found P (p ∷ ps) h each =
    (each p (find_first nat_cmp rank_test p ps), all_found P ps (second _ _ h) (λ q is. each q (find_rest nat_cmp rank_test p ps h q.0 q.1 is)))

-- What holds of all holds of those that are left.
pub all_left : (P : EventPlace → Type 0) (f : EventPlace → Bool) (ps : List EventPlace) → AllPlaces P ps → AllPlaces P (filter f ps)
all_left P f [] h = tt
all_left P f (p ∷ ps) h = elim (f p) as (λ b. AllPlaces P (cond b (p ∷ filter f ps) (filter f ps))) [ true ↦ (h.0, all_left P f ps h.1) | false ↦ all_left P f ps h.1 ]

-- What was chosen passes the test.
pub chosen_test : (test : Stored → Bool) (slots : List (Option Held)) (o : Option ℕ) (s : ℕ) → chosen test slots o ≡ Some s → test (stored_at slots s) ≡ true
chosen_test test slots o s h = grind (arith, common_steps)

-- Each place is that of an event.
pub all_held : (test : Stored → Bool) (rows : List TxRow) (es sub : List EventPlace) (slots : List (Option Held))
    → IsKeyed rows es slots → IsSub test es slots sub → AllPlaces (λ p. IsHeld slots p.1) sub
all_held test rows es sub slots keyed is = all_found (λ p. IsHeld slots p.1) sub is.rising (λ p at.
    ap is_some (keyed.homes p.0 p.1 (chosen_place test slots (place_of p.0 es) p.1 (sym (is.each p.0) ∙ at))).held_is)

-- The first of such places is that of an event.
pub stored_first : (slots : List (Option Held)) (ps : List EventPlace) → AllPlaces (λ p. IsHeld slots p.1) ps → IsStored slots (slice_get ps 0)
stored_first slots [] h = tt
stored_first slots (p ∷ ps) h = h.0

-- So is the last.
pub stored_last : (slots : List (Option Held)) (ps : List EventPlace) → AllPlaces (λ p. IsHeld slots p.1) ps → IsStored slots (last_of ps)
stored_last slots [] h = tt
stored_last slots (p ∷ []) h = h.0
stored_last slots (p ∷ q ∷ ps) h = subst (IsStored slots) (sym (last_cons p q ps)) (stored_last slots (q ∷ ps) h.1)

module _ {test : Stored → Bool} {rows : List TxRow} {es sub : List EventPlace} {slots : List (Option Held)} (o : Option TableRow) (keyed : IsKeyed rows es slots) (is : IsSub test es slots sub) where
  own_held : (slot : ℕ) → AllPlaces (λ p. IsHeld slots p.1) (segment slot sub)
  own_held slot = all_left (λ p. IsHeld slots p.1) (λ e. e.0 / 2 ^ 31 == slot) sub (all_held test rows es sub slots keyed is)

  -- The first place of a transaction is that of an event.
  pub first_held : IsStored slots (first_under sub o)
  first_held = elim o as (λ r. IsStored slots (first_under sub r)) [ None ↦ tt | Some row ↦ stored_first slots (segment row.slot sub) (own_held row.slot) ]

  -- So is the last.
  pub last_held : IsStored slots (last_under sub o)
  last_held = elim o as (λ r. IsStored slots (last_under sub r)) [ None ↦ tt | Some row ↦ stored_last slots (segment row.slot sub) (own_held row.slot) ]
