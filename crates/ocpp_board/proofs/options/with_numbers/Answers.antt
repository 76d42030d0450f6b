use Rattle.ocpp_board.proofs.CommandLine.{one_more}
use Rattle.ocpp_board.proofs.options.with_numbers.Goals as goal

pub returns-clause-words : goal.returns-clause-words
returns-clause-words c =
    one_more c.in_ok-command-7.ensures.words
    (one_more c.in_ok-command-6.ensures.words
    (one_more c.in_ok-command-5.ensures.words
    (one_more c.in_ok-command-4.ensures.words
    (one_more c.in_ok-command-3.ensures.words
    (one_more c.in_ok-command-2.ensures.words
    (one_more c.in_ok-command.ensures.words c.requires.words c.port_option.ensures.words) c.connections_option.ensures.words) c.watch_option.ensures.words) c.period_option.ensures.words) c.order_option.ensures.words) c.settle_option.ensures.words) c.limits_option.ensures.words
