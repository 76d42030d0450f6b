use Rattle.std.proofs.Common.{◌≡◌, length, take}
use Rattle.board_report.{specs.Plans.AreBoardsWithin, specs.Boards.site_boards, specs.Looks.looks_over}
use Rattle.station_ledger.specs.Quarters.{IsWork}
use Rattle.site_desk.specs.Parts.{limits_at}
use Rattle.board_report.proofs.boards.boards_of.Given as goal

abbrev pub invariant-loop-number : goal.invariant-loop-number
invariant-loop-number l =
    (l.boards.items ≡ site_boards l.fn.plan.sites.items (take l.number l.fn.plan.stations.items) l.fn.cells l.fn.site)
    × AreBoardsWithin (limits_at (take l.number l.fn.plan.stations.items) l.fn.site) l.boards.items
    × (l.number-end ≡ length l.fn.plan.stations.items)
    × IsWork (looks_over (take l.number l.fn.plan.stations.items) l.fn.cells l.fn.site) l.fn.work l.work
