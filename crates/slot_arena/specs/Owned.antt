-- What the owner of a block's places owns and lends, for values of the row R.
use Rattle.std.{specs.Prelude.{ℕ, ◌+◌, ◌*◌, ◌^◌, List, [], ◌∷◌, length, Option, Some, None}, specs.Mem.type_size}
use base.Fraction.{full_share}
use base.Fml.{Lft, Fml, ftrue, ffalse, fsep, flt, froom}
use mir.Syntax.{Ty, ty_array}
use mir.Raw.{raw}
use denote.RattleType.{RattleType}
use denote.Memory.{lone, part_at, shared_of}
use denote.Sharing.{nothing, said, beside}
use denote.RawPtr.{Ptr, block_ptr, null_ptr}

module _ (R : RattleType) where
  -- One place, `at` bytes into the block: a value, or bare room for one.
  abbrev pub place_at : ℕ → ℕ → Option R.Denot → Fml
  place_at block at None = froom (raw (lone R.mir)) block at
  place_at block at (Some x) = part_at R full_share x block at

  -- The places of a row, one beside the other.
  abbrev pub places_at : ℕ → ℕ → List (Option R.Denot) → Fml
  places_at block at [] = ftrue
  places_at block at (place ∷ row) = fsep (place_at block at place) (places_at block (at + type_size R) row)

  -- What a `&` to a place shows: the value, if there is one.
  abbrev pub place_lent : ℕ → ℕ → Option R.Denot → Lft → Fml
  place_lent block at None = nothing
  place_lent block at (Some x) = shared_of R x block at

  -- What a `&` to a row of places shows.
  abbrev pub places_lent : ℕ → ℕ → List (Option R.Denot) → Lft → Fml
  places_lent block at [] = nothing
  places_lent block at (place ∷ row) = beside (place_lent block at place) (places_lent block (at + type_size R) row)

  -- The row takes fewer than 2 ^ 63 bytes.
  abbrev pub row_fits : List (Option R.Denot) → Fml
  row_fits row = flt (length row * type_size R) (2 ^ 63)

  -- The places from the block's start on; nothing is at null.
  abbrev pub owned_places : Ptr → List (Option R.Denot) → Fml
  owned_places null_ptr row = ffalse
  owned_places (block_ptr block at) row = fsep (row_fits row) (places_at block at row)

  -- What a `&` to the owner shows.
  abbrev pub lent_places : Ptr → List (Option R.Denot) → Lft → Fml
  lent_places null_ptr row = said ffalse
  lent_places (block_ptr block at) row = beside (said (row_fits row)) (places_lent block at row)

  -- The allocator's permission to take back a block of so many places.
  abbrev pub owned_lease : (Ty → Ptr → Fml) → Ptr → ℕ → Fml
  owned_lease token start count = token (raw (ty_array (lone R.mir) count)) start
