-- A `&` to the lease shows nothing.
use denote.RattleType.{RattleType}
use denote.RawPtr.{RawPtr}
use denote.Param.Laws.{Laws}
use denote.Param.Shared.{copy_shared}
use denote.SharingLaws.{nothing_shr_laws}
use denote.Struct.Laws.{field_copy}
use denote.Struct.Lending.{of_Lends, Lends-nothing}
use Rattle.core.specs.declared.alloc.Allocator.{Ghosts}
use Rattle.core.specs.contracts.marker.PhantomData as marker
use Rattle.slot_arena.specs.contracts.block.Lease as lease
use Rattle.slot_arena.proofs.block.Lease.TheLaw.Statement.{statement}

pub shares : (R A : RattleType) (g : Ghosts A.Denot) (L : Laws R) (P : Laws A) → statement R A g L P
shares R A g L P =
    let mark_copies = copy_shared (marker.the_field RawPtr) (field_copy (marker.the_type RawPtr) tt) in
    of_Lends (lease.struct R A g) (lease.the_codes R.Denot A.Denot R.coded A.coded (marker.the_row RawPtr).coded) (lease.the_heap R A g) (lease.the_lent R A g)
    (λ _ _. nothing_shr_laws) (mark_copies, tt) (λ M 𝓤 𝓛 l _. Lends-nothing 𝓛 (lease.the_heap R A g l) (lease.the_row R A g).lives)
