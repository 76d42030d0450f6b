use Rattle.std.{proofs.Common.{◌≡◌, ◌<◌, ◌∙◌, ap, arith}, specs.Sync.Mutex.mutex_guard_value}
use Rattle.site_desk.proofs.Operators.{among_at}
use Rattle.site_desk.proofs.operator.cell_at.Goals as goal

pub returns : goal.returns
returns g c = among_at (λ h. g.C.HasCell.cell (mutex_guard_value h)) c.args.held.now c.args.number c.index-held-number.result
    c.cell-cell.result.now (omega arith) c.index-held-number.is (c.cell-cell.ensures ∙ ap g.C.HasCell.cell c.deref.ensures)
