use Rattle.ocpp_board.proofs.CommandLine.{argument_more_ok, placed_last_ok}
use Rattle.ocpp_board.proofs.options.with_words.Goals as goal

pub returns-clause-command : goal.returns-clause-command
returns-clause-command c = placed_last_ok c.arg.result c.args.command c.args.words c.arg.ensures c.requires.words c.requires.command

pub returns-clause-words : goal.returns-clause-words
returns-clause-words c = argument_more_ok c.arg.result c.args.command c.args.words c.arg.ensures c.requires.words.local
