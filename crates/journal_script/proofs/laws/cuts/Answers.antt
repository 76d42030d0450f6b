use Rattle.journal_script.proofs.Cuts.{cuts_are_scripts}
use Rattle.journal_script.proofs.laws.cuts.Goals as goal

pub returns : goal.returns
returns c = cuts_are_scripts
