use Rattle.std.proofs.Common.{ap, ◌∙◌, subst}
use Rattle.site_desk.specs.Operator.{AreNotedBoards}
use Rattle.site_desk.proofs.desk.Desk.site_boards_by.Goals as goal

pub returns-in-Some-sum_of-clause-noted : goal.returns-in-Some-sum_of-clause-noted
returns-in-Some-sum_of-clause-noted g c =
    subst (λ ps. AreNotedBoards (g.S.Notes.notes c.args.way.now c.in_ok-_held.noted) ps c.args.site c.in_ok-_held.boards.items)
    (c.deref-4.ensures.value ∙ ap (λ r. r.stations) c.self.view_is) c.in_ok-_held.ensures.noted
