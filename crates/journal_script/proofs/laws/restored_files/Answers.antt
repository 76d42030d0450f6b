use Rattle.journal_script.proofs.OneScript.{comments_change_nothing, restored_cuts_are_scripts, restored_files_are_scripts}
use Rattle.journal_script.proofs.laws.restored_files.Goals as goal

pub returns : goal.returns
returns c = record { comments = comments_change_nothing; whole = restored_files_are_scripts; cut = restored_cuts_are_scripts }
