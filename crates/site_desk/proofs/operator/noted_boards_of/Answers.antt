use Rattle.std.{proofs.Common.{map, subst, sym}, specs.Sync.Mutex.mutex_guard_value}
use Rattle.site_desk.{specs.Operator.{AreNotedBoards, IsAmong}, proofs.Operators.{among_noted, noted_boards}}
use Rattle.site_desk.proofs.operator.noted_boards_of.Goals as goal

pub returns-clause-noted : goal.returns-clause-noted
returns-clause-noted g c =
    noted_boards (g.S.Notes.notes c.args.way.now c.in-Ok.noted) (map (λ h. g.C.HasCell.cell (mutex_guard_value h)) c.in-Ok.held.items) c.args.places.now c.args.site c.in_ok-boards.boards.items
    (among_noted (λ h. g.C.HasCell.cell (mutex_guard_value h)) (g.S.Notes.notes c.args.way.now c.in-Ok.noted) c.in-Ok.held.items c.in-Ok.ensures)
    (subst (λ xs. AreNotedBoards (IsAmong (map (λ h. g.C.HasCell.cell (mutex_guard_value h)) xs)) c.args.places.now c.args.site c.in_ok-boards.boards.items)
    c.as_slice.ensures.value c.in_ok-boards.ensures.held)
