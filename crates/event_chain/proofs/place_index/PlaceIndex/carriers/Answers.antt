use Rattle.std.{proofs.lemmas.Grind.common_steps, proofs.Common.{arith, ℕ, ◌≡◌, Some, refl}}
use Rattle.key_index.specs.Index as keyed
use Rattle.ledger_model.{specs.declared.reading.Direction.Direction, specs.declared.reading.Direction.TheVariants.{Import, Export}}
use Rattle.event_chain.specs.Placed.{carriers_of, marked_index, mark_of, placed}
use Rattle.event_chain.proofs.place_index.PlaceIndex.carriers.Goals as goal

-- The index of a direction's mark.
marked_toward : (i : keyed.Index ℕ) (d : Direction) → marked_index (Some (mark_of d)) i ≡ carriers_of (placed i) d
marked_toward i Import = refl
marked_toward i Export = refl

pub returns : goal.returns
returns c = grind (arith, common_steps, marked_toward)
