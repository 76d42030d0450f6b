use Rattle.std.proofs.Common.{subst}
use Rattle.site_desk.specs.Submit.{CanJudge}
use Rattle.kept_desk.proofs.way.JournalledSettlesKeptCellMoment.settle.Goals as goal

pub submit-requires-clause-can : goal.submit-requires-clause-can
submit-requires-clause-can g c = subst (λ d. CanJudge c.args.at.number c.args.at.place.now d c.args.pass.now) c.cell.ensures (c.can_judge.ensures c.if-can_judge.true)
