use Rattle.ocpp_board.proofs.CommandLine.{argument_more_ok, options_more_ok}
use Rattle.ocpp_board.proofs.options.with_option.Goals as goal

pub returns-clause-takes : goal.returns-clause-takes
returns-clause-takes c = options_more_ok c.arg.result c.args.command c.args.option c.arg.ensures c.requires.option c.requires.command

pub returns-clause-words : goal.returns-clause-words
returns-clause-words c = argument_more_ok c.arg.result c.args.command c.args.option c.arg.ensures c.requires.option.local
