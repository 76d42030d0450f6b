use Rattle.std.proofs.Common.{ap}
use Rattle.site_desk.specs.Roster.{Roster}
use Rattle.running_desk.proofs.Replied.{submitted_line}
use Rattle.running_desk.proofs.running.Running.take_command.Goals as goal

pub returns-in-Ok-clause-line : goal.returns-in-Ok-clause-line
returns-in-Ok-clause-line g c =
    submitted_line g.S.Delivers.gives _ _ _ _ _ _ _ _ _ (ap (λ (d : Roster). d.stations) c.args.self.now.same) c.requires.empty
    c.command-answer.ensures.settled c.command-answer.ensures.given c.in-Ok.ensures
