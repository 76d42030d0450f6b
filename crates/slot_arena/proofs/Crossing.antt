-- The parts of a block may cross threads as its values and its allocator may.
use Rattle.std.{specs.Prelude.{ℕ, ◌+◌, List, [], ◌∷◌, Option, Some, None}, specs.Mem.type_size}
use base.Fraction.{full_share}
use base.Shift.{Keyless}
use denote.RattleType.{RattleType}
use denote.RawPtr.{Ptr, block_ptr, null_ptr}
use denote.Struct.Struct.{exits_of}
use denote.Struct.Owning.{shape, fields, to}
use denote.Param.Send.{IsSend, IsSync, Common, AllSend, part_keyless, owning_send, struct_send, struct_sync, sendable}
use Rattle.core.specs.declared.alloc.Allocator.{Ghosts}
use Rattle.std_alloc.proofs.SendSync.{FreesAnywhere, quiet}
use Rattle.slot_arena.specs.Owned.{places_at, places_lent, owned_places, lent_places}
use Rattle.slot_arena.specs.contracts.block.Places as places
use Rattle.slot_arena.specs.contracts.block.Lease as lease

module _ (R : RattleType) where
  -- What a row owns belongs to no thread.
  row_moves : IsSend R → (block at : ℕ) (row : List (Option R.Denot)) → Keyless (places_at R block at row)
  row_moves s block at [] = tt
  row_moves s block at (None ∷ row) = (tt, row_moves s block (at + type_size R) row)
  row_moves s block at (Some x ∷ row) = (part_keyless R s full_share x block at, row_moves s block (at + type_size R) row)

  -- Nor does what the block owns.
  block_moves : IsSend R → (start : Ptr) (row : List (Option R.Denot)) → Keyless (owned_places R start row)
  block_moves s null_ptr row = tt
  block_moves s (block_ptr block at) row = (tt, row_moves s block at row)

  -- What a `&` to a row shows is the same on each thread.
  row_common : IsSync R → (block at : ℕ) (row : List (Option R.Denot)) → Common (places_lent R block at row)
  row_common y block at [] κ = tt
  row_common y block at (None ∷ row) κ = (tt, row_common y block (at + type_size R) row κ)
  row_common y block at (Some x ∷ row) κ = (y.shared x block at κ, row_common y block (at + type_size R) row κ)

  -- So is what a `&` to the block shows.
  block_common : IsSync R → (start : Ptr) (row : List (Option R.Denot)) → Common (lent_places R start row)
  block_common y null_ptr row κ = tt
  block_common y (block_ptr block at) row κ = (tt, row_common y block at row κ)

  -- The places are `Send` where the values are.
  pub places_send : IsSend R → IsSend (places.the_row R)
  places_send s = let T = places.the_type R in let marks : AllSend (fields T) = (search sendable, tt) in
      owning_send T marks (λ p. block_moves s p.at p.row) (λ k. quiet (to T) (exits_of k (fields T)) ((struct_send (shape T) marks).leaving k))

  -- The places are `Sync` where the values are.
  pub places_sync : IsSync R → IsSync (places.the_row R)
  places_sync y = let T = places.the_type R in
      record { shared = λ p block at κ. ((struct_sync (shape T) (search sendable, tt)).shared (to T p) block at κ, block_common y p.at p.row κ) }

  module _ (A : RattleType) (g : Ghosts A.Denot) where
    -- The lease is `Send` where the allocator frees on any thread.
    pub lease_send : FreesAnywhere A.Denot g → IsSend (lease.the_row R A g)
    lease_send anywhere = let T = lease.the_type R A g in let marks : AllSend (fields T) = (search sendable, tt) in
        owning_send T marks (λ l. anywhere.frees l.alloc _ l.at) (λ k. quiet (to T) (exits_of k (fields T)) ((struct_send (shape T) marks).leaving k))

    -- A `&` to the lease shows nothing, so it is always `Sync`.
    pub lease_sync : IsSync (lease.the_row R A g)
    lease_sync = let T = lease.the_type R A g in record { shared = λ l block at κ. ((struct_sync (shape T) (search sendable, tt)).shared (to T l) block at κ, tt) }
