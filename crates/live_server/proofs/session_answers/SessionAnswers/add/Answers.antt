use Rattle.std.specs.Prelude.{is_ok}
use Rattle.station_link.specs.Attended.{IsAnswered}
use Rattle.live_server.proofs.Appended.{appended}
use Rattle.live_server.proofs.session_answers.SessionAnswers.add.Goals as goal

pub invariant_of-self : goal.invariant_of-self
invariant_of-self g c =
    appended (IsAnswered g.D.Delivers.gives) (is_ok c.append.result) _ _ _ c.append.ensures.items c.self.invariant c.requires
