use Rattle.ledger_model.specs.declared.reading.Direction.TheVariants.{Import, Export}
use Rattle.event_chain.proofs.around.around_of.Goals as goal

pub sides_where-requires-clause-carry : goal.sides_where-requires-clause-carry
sides_where-requires-clause-carry c = c.requires.carry Import

pub sides_where-requires-2-clause-carry : goal.sides_where-requires-2-clause-carry
sides_where-requires-2-clause-carry c = c.requires.carry Export

pub returns : goal.returns
returns c Import = c.sides_where.ensures
returns c Export = c.sides_where-2.ensures
