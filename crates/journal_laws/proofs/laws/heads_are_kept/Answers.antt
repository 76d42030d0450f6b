use Rattle.journal_laws.proofs.Heads.{heads_are_kept}
use Rattle.journal_laws.proofs.laws.heads_are_kept.Goals as goal

pub returns : goal.returns
returns c = heads_are_kept
