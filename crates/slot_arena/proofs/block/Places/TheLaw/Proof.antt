-- A `&` to the places is made of a borrow of them.
use mathlib.Core.List.{[], ◌++◌}
use base.Fml.{Incl-trans}
use contract.BorrowLft.{meet_⊑_left}
use denote.RattleType.{RattleType}
use denote.RawPtr.{RawPtr}
use denote.Param.Laws.{Laws}
use denote.Param.Shared.{copy_shared}
use denote.Struct.Laws.{field_copy}
use denote.Struct.Lending.{of_Lends}
use Rattle.core.specs.contracts.marker.PhantomData as marker
use Rattle.slot_arena.specs.contracts.block.Places as places
use Rattle.slot_arena.{proofs.block.Places.TheLaw.Statement.statement, proofs.Sharing.{block_shown, block_lends}}

pub shares : (R : RattleType) (L : Laws R) → statement R L
shares R L =
    let mark_copies = copy_shared (marker.the_field RawPtr) (field_copy (marker.the_type RawPtr) tt) in
    of_Lends (places.struct R) (places.the_codes R.Denot R.coded (marker.the_row RawPtr).coded) (places.the_heap R) (places.the_lent R)
    (λ p _. block_shown R L.shr_laws p.at p.row) (mark_copies, tt)
    (λ M 𝓤 𝓛 p _. block_lends 𝓛 (places.the_row R).lives R L (Incl-trans (meet_⊑_left (R.lives ++ []) _) (meet_⊑_left R.lives [])) p.at p.row)
