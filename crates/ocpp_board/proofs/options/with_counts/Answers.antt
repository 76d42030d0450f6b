use Rattle.ocpp_board.proofs.CommandLine.{no_words, one_more}
use Rattle.ocpp_board.proofs.options.with_counts.Goals as goal

pub returns-clause-command : goal.returns-clause-command
returns-clause-command c = no_words c.in_ok-command-2.command c.in_ok-command-2.ensures.takes

pub returns-clause-words : goal.returns-clause-words
returns-clause-words c = one_more c.in_ok-command-2.ensures.words (one_more c.in_ok-command.ensures.words c.requires.words c.stations_option.ensures.words) c.events_option.ensures.words
