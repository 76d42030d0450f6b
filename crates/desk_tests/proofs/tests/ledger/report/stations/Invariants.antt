use Rattle.std.{proofs.Common.{◌≡◌, ◌*◌, List}, specs.List.sum_by}
use Rattle.ledger_model.{specs.Limits.Bounds, specs.Settling.default_periods}
use Rattle.board_report.{specs.Plans.AreBoardsWithin, specs.Sums.AreOfPeriod}
use Rattle.desk_tests.proofs.tests.ledger.report.stations.Given as goal

-- the boards so far are those of a plan of default limits, by the default period
abbrev pub invariant-loop-name : goal.invariant-loop-name
invariant-loop-name l = (plan : List Bounds)
    × ((sum_by (λ (limits : Bounds). limits.readings) plan ≡ 16_384 * l.name-index) × AreBoardsWithin plan l.boards.items × AreOfPeriod default_periods l.boards.items)
