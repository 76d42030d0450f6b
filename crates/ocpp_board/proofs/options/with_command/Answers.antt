use Rattle.ocpp_board.proofs.CommandLine.{command_more_ok, words_more_ok}
use Rattle.ocpp_board.proofs.options.with_command.Goals as goal

pub returns-clause-program : goal.returns-clause-program
returns-clause-program c = command_more_ok c.subcommand.result c.args.program c.args.command c.subcommand.ensures c.requires.command c.requires.program

pub returns-clause-words : goal.returns-clause-words
returns-clause-words c = words_more_ok c.subcommand.result c.args.program c.args.command c.subcommand.ensures c.requires.command
