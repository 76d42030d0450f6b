use Rattle.journal_laws.proofs.CutJournals.{cut_journals_restore}
use Rattle.journal_laws.proofs.laws.cut_journals_restore.Goals as goal

pub returns : goal.returns
returns c = cut_journals_restore
