use Rattle.journal_script.proofs.Journals.{journals_are_scripts}
use Rattle.journal_script.proofs.laws.journals.Goals as goal

pub returns : goal.returns
returns c = journals_are_scripts
