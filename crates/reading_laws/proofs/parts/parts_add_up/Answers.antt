use Rattle.ledger_model.proofs.PartLemmas.{parts_energy}
use Rattle.reading_laws.proofs.PartLaws.{no_fall, no_rise}
use Rattle.reading_laws.proofs.parts.parts_add_up.Goals as goal

pub returns-clause-sums : goal.returns-clause-sums
returns-clause-sums c = parts_energy

pub returns-clause-rises : goal.returns-clause-rises
returns-clause-rises c = no_fall

pub returns-clause-falls : goal.returns-clause-falls
returns-clause-falls c = no_rise
