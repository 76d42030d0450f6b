-- The slots of the live events, and what they hold.
use Rattle.std.{proofs.lemmas.Grind.common_steps, proofs.Common.{arith, ◌≡◌, ℕ, true, List, Option, Some, None, refl, sym, ap, ◌∙◌}, proofs.lemmas.Bool.Decides.Decides-eqb}
use Rattle.slot_arena.specs.Arena.{value_at}
use Rattle.ledger_model.specs.Content.{Stored}
use Rattle.event_store.specs.Slots.{Held}
use Rattle.event_chain.{specs.Table.TxRow, specs.Flat.{EventPlace, place_of}, specs.Kept.{IsSub, IsKeyed, is_live}, specs.Walk.{is_under, are_under}, proofs.Lives.chosen_place, proofs.Members.{all_found, chosen_test}, proofs.Walks.all_under}

-- A free slot is not held.
not_free : (o : Option Held) (h : Held) → o ≡ Some h → o ≡ None → ⊥
not_free o h a b = cc

module _ {rows : List TxRow} {es live : List EventPlace} {slots : List (Option Held)} (keyed : IsKeyed rows es slots) (lives : IsSub is_live es slots live) where
  -- The event of a live place is in its slot, under its rank.
  held_live : (r s : ℕ) → place_of r live ≡ Some s → (stored : Stored) × (value_at slots s ≡ Some (r, stored))
  held_live r s at = let home = keyed.homes r s (chosen_place is_live slots (place_of r es) s (sym (lives.each r) ∙ at)) in (home.stored, home.held_is)

  -- No live place has a free slot.
  pub unused_free : (s : ℕ) → value_at slots s ≡ None → (r : ℕ) → place_of r live ≡ Some s → ⊥
  unused_free s free r at = let held = held_live r s at in not_free (value_at slots s) (r, held.0) held.1 free

  -- The events of the live places have their ranks.
  pub live_under : are_under slots live ≡ true
  live_under = all_under slots live
      (all_found (λ p. is_under p.0 (value_at slots p.1) ≡ true) live lives.rising (λ p at. let held = held_live p.0 p.1 at in ap (is_under p.0) held.1 ∙ (Decides-eqb p.0 p.0).1 refl))

-- No live place has the slot of a voided event.
pub unused_voided : (es live : List EventPlace) (slots : List (Option Held)) → IsSub is_live es slots live
    → (s r0 : ℕ) (event : Stored) → value_at slots s ≡ Some (r0, event) → event.voided ≡ true → (r : ℕ) → place_of r live ≡ Some s → ⊥
unused_voided es live slots lives s r0 event here voided r at = grind (arith, common_steps, chosen_test)
