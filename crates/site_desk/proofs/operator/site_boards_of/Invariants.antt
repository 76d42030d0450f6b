use Rattle.std.{proofs.Common.{◌≡◌, length, map, take}, specs.Sync.Mutex.mutex_guard_value}
use Rattle.site_desk.{specs.Operator.{AreBoardsAt, IsAmong, site_looks}, proofs.Operators.AreSoFar}
use Rattle.station_ledger.specs.Quarters.{IsWork}
use Rattle.site_desk.proofs.operator.site_boards_of.Given as goal

-- the boards of the site's stations so far
abbrev pub invariant-loop-number : goal.invariant-loop-number
invariant-loop-number g l = record {
  boards : AreBoardsAt (take l.number l.places) l.site l.boards.items;
  held : AreSoFar (IsAmong (map (λ h. g.C.HasCell.cell (mutex_guard_value h)) l.held)) l.places l.site l.number l.boards.items;
  looks : IsWork (site_looks (take l.number l.places) l.site) l.fn.work l.work;
  end : l.number-end ≡ length l.places;
}
