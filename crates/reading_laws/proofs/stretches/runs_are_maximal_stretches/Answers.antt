use Rattle.reading_laws.proofs.StretchLemmas.{runs_counted, stretches_there}
use Rattle.reading_laws.proofs.stretches.runs_are_maximal_stretches.Goals as goal

pub returns : goal.returns
returns c = record { counted = runs_counted; there = stretches_there }
