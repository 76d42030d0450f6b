use Rattle.std.proofs.Common.{◌≡◌, ap}
use Rattle.kept_desk.proofs.Behind.{boards_behind}
use Rattle.kept_desk.proofs.desk.KeptDesk.site_boards.Goals as goal

pub returns-clause-behind : goal.returns-clause-behind
returns-clause-behind g c =
    boards_behind c.site_boards_by.result g.K.Opening.first c.self.inside.desk.stations c.args.site
    _ _ _ (ap (λ d. d.stations) c.self.view_is) c.self.invariant.few c.site_boards_by.ensures.noted
