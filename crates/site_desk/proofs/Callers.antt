-- The lemmas on parts and settled commands that callers cite.
pub use Rattle.site_desk.proofs.Settled.{known_after, tied_after, tied_beside}
pub use Rattle.site_desk.proofs.NewParts.{planned_sites}
pub use Rattle.site_desk.proofs.Ties.{new_apart, new_tied, tied_step, apart_step}
