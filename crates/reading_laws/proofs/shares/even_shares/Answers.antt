use Rattle.reading_laws.proofs.EvenShareLemmas.{shared, whole_else}
use Rattle.reading_laws.proofs.shares.even_shares.Goals as goal

pub returns-clause-shared : goal.returns-clause-shared
returns-clause-shared c = shared

pub returns-clause-whole : goal.returns-clause-whole
returns-clause-whole c = whole_else
