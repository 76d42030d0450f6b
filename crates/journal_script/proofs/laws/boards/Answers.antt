use Rattle.journal_script.proofs.Boards.{boards_are_those_of_cells}
use Rattle.journal_script.proofs.laws.boards.Goals as goal

pub returns : goal.returns
returns c = boards_are_those_of_cells
