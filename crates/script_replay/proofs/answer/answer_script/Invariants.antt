use Rattle.site_book.specs.Tables.{names_of}
use Rattle.script_replay.proofs.answer.answer_script.Given as goal

abbrev pub ghosts-replay_lines : goal.ghosts-replay_lines
ghosts-replay_lines g a = record { table = names_of a.tables }
