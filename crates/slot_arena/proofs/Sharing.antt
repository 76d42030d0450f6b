-- A `&` to the owner of a row of places is made of `&`s to the values in it, place by place.
use Prim.Native.Nat.{ℕ, ◌+◌}
use Rattle.std.{specs.Prelude.{List, [], ◌∷◌, Option, Some, None}, specs.Mem.type_size}
use seplogic.Ra.Ura.{Ura}
use base.Fml.{Lft, Incl, ftrue, ffalse}
use types.Logic.{Logic}
use denote.RattleType.{RattleType, RowLaws}
use denote.Param.Laws.{Laws}
use denote.RawPtr.{Ptr, block_ptr, null_ptr}
use denote.Shares.{Shares-less}
use denote.Sharing.{ShrLaws, said}
use denote.SharingLaws.{beside_shr_laws, nothing_shr_laws, said_shr_laws}
use denote.Struct.Lending.{Lends, Lends-both, Lends-nothing, Lends-said, Lends-false}
use Rattle.slot_arena.specs.Owned.{place_at, places_at, place_lent, places_lent, row_fits, owned_places, lent_places}

module _ (R : RattleType) (laws : RowLaws R) where
  -- What one place shows can be copied and used for less long.
  place_shown : (block at : ℕ) (place : Option R.Denot) → ShrLaws (place_lent R block at place)
  place_shown block at None = nothing_shr_laws
  place_shown block at (Some x) = laws x block at

  -- So can what a row shows.
  row_shown : (block at : ℕ) (row : List (Option R.Denot)) → ShrLaws (places_lent R block at row)
  row_shown block at [] = nothing_shr_laws
  row_shown block at (place ∷ row) = beside_shr_laws _ _ (place_shown block at place) (row_shown block (at + type_size R) row)

  -- And what the whole block shows.
  pub block_shown : (start : Ptr) (row : List (Option R.Denot)) → ShrLaws (lent_places R start row)
  block_shown null_ptr row = said_shr_laws ffalse tt
  block_shown (block_ptr block at) row = beside_shr_laws _ _ (said_shr_laws (row_fits R row) tt) (row_shown block at row)

module _ {M : Type 1} {𝓤 : Ura M} (𝓛 : Logic 𝓤) (κ : Lft) (R : RattleType) (L : Laws R) (outlives : Incl κ R.lives) where
  -- A borrow of a place shows it.
  place_lends : (block at : ℕ) (place : Option R.Denot) → Lends 𝓛 (place_at R block at place) (place_lent R block at place) κ
  place_lends block at None = Lends-nothing 𝓛 (place_at R block at None) κ
  place_lends block at (Some x) = λ short token. Shares-less 𝓛 R R.lives κ outlives (L.shares 𝓛) x short token block at

  -- A borrow of a row shows each of its places.
  row_lends : (block at : ℕ) (row : List (Option R.Denot)) → Lends 𝓛 (places_at R block at row) (places_lent R block at row) κ
  row_lends block at [] = Lends-nothing 𝓛 ftrue κ
  row_lends block at (place ∷ row) = let after = at + type_size R in
      Lends-both 𝓛 (place_at R block at place) (places_at R block after row) (place_lent R block at place) (places_lent R block after row) κ
      (place_lends block at place) (row_lends block after row)

  -- A borrow of the block shows its row.
  pub block_lends : (start : Ptr) (row : List (Option R.Denot)) → Lends 𝓛 (owned_places R start row) (lent_places R start row) κ
  block_lends null_ptr row = Lends-false 𝓛 (said ffalse) κ
  block_lends (block_ptr block at) row =
      Lends-both 𝓛 (row_fits R row) (places_at R block at row) (said (row_fits R row)) (places_lent R block at row) κ (Lends-said 𝓛 (row_fits R row) tt κ) (row_lends block at row)
