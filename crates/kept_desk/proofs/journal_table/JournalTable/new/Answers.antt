use Rattle.kept_desk.proofs.Moves.{begins}
use Rattle.kept_desk.proofs.journal_table.JournalTable.new.Goals as goal

pub of_words-requires : goal.of_words-requires
of_words-requires c = begins
