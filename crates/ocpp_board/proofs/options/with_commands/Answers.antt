use Rattle.clap.specs.Simple.{app_of}
use Rattle.ocpp_board.proofs.CommandLine.{next_command, program_simple}
use Rattle.ocpp_board.proofs.options.with_commands.Goals as goal

pub returns-clause-simple : goal.returns-clause-simple
returns-clause-simple c = program_simple (app_of c.in_ok-program-3.program) c.in_ok-program-3.ensures.program

pub returns-clause-commands : goal.returns-clause-commands
returns-clause-commands c =
    next_command c.in_ok-program-3.ensures.words (next_command c.in_ok-program-2.ensures.words
    (next_command c.in_ok-program.ensures.words c.requires.none c.replay_command.ensures.words) c.in_ok-serve_command.ensures.words) c.in_ok-sim_command.ensures.words
