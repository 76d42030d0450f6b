use Rattle.std.proofs.Common.{rules, ◌≡◌, None}
use Rattle.ocpp_board.proofs.Limits.{no_changes, no_events, no_readings, no_transactions}
use Rattle.ocpp_board.proofs.limit_words.stated_limits.Goals as goal

pub returns-in_err-number : goal.returns-in_err-number
returns-in_err-number c = no_transactions c.args.words.now _ c.from_residual.result (search rules) (c.number.ensures.none (search rules))

pub returns-in_err-number-2 : goal.returns-in_err-number-2
returns-in_err-number-2 c = no_events c.args.words.now _ c.from_residual-in_err-number-2.result (search rules) (c.number-2.ensures.none (search rules))

pub returns-in_err-number-3 : goal.returns-in_err-number-3
returns-in_err-number-3 c = no_readings c.args.words.now _ c.from_residual-in_err-number-3.result (search rules) (c.number-3.ensures.none (search rules))

pub returns-in_err-number-4 : goal.returns-in_err-number-4
returns-in_err-number-4 c = no_changes c.args.words.now _ c.from_residual-in_err-number-4.result (search rules) (c.number-4.ensures.none (search rules))
