use Rattle.ocpp_board.proofs.CommandLine.{one_more}
use Rattle.ocpp_board.proofs.options.with_life.Goals as goal

pub returns-clause-words : goal.returns-clause-words
returns-clause-words c =
    one_more c.in_ok-command-7.ensures.words
    (one_more c.in_ok-command-6.ensures.words
    (one_more c.in_ok-command-5.ensures.words
    (one_more c.in_ok-command-4.ensures.words
    (one_more c.in_ok-command-3.ensures.words
    (one_more c.in_ok-command-2.ensures.words
    (one_more c.in_ok-command.ensures.words c.requires.words c.in_ok-live_option.ensures.words)
    c.in_ok-journal_option.ensures.words) c.in_ok-times_option.ensures.words) c.in_ok-restore_option.ensures.words) c.in_ok-left_out_option.ensures.words) c.in_ok-log_option.ensures.words) c.in_ok-board_port_option.ensures.words
