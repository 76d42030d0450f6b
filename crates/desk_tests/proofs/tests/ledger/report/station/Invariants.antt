use Rattle.std.proofs.Common.{◌≡◌}
use Rattle.ledger_model.{specs.Limits.default_limits, specs.Settling.default_periods}
use Rattle.desk_tests.proofs.tests.ledger.report.station.Given as goal

-- the limits and the period stay
abbrev pub invariant-loop-one : goal.invariant-loop-one
invariant-loop-one l = (l.ledger.limits ≡ default_limits) × (l.ledger.period ≡ default_periods)
