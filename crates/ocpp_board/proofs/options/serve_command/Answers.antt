use Rattle.ocpp_board.proofs.CommandLine.{one_more}
use Rattle.ocpp_board.proofs.options.serve_command.Goals as goal

pub returns-clause-words : goal.returns-clause-words
returns-clause-words c = one_more c.in_ok-command-3.ensures.words c.in_ok-command-2.ensures.words c.in_ok-station_words.ensures.words
