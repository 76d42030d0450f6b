use Rattle.ledger_model.specs.declared.reading.Direction.TheVariants.{Import, Export}
use Rattle.station_ledger.proofs.moves.around.Goals as goal

pub returns : goal.returns
returns c Import = c.sides.ensures
returns c Export = c.sides-2.ensures
