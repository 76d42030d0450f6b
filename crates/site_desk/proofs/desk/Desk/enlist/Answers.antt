use Rattle.std.{proofs.Common.{ap, ◌∙◌, bytes_eq}, specs.List.list_any}
use Rattle.site_desk.{specs.declared.roster.StationPlace.StationPlace, proofs.Ends.known_not}
use Rattle.site_desk.proofs.desk.Desk.enlist.Goals as goal

pub returns-then-station-number-clause-unknown : goal.returns-then-station-number-clause-unknown
returns-then-station-number-clause-unknown g c =
    known_not _ _ _ (λ e. cc) (c.in-Some.ensures.known ∙ ap (list_any (λ (p : StationPlace). bytes_eq c.args.name.now p.name)) (c.deref.ensures.value ∙ ap (λ r. r.stations) c.self.view_is))

pub returns-in-Ok-clause-unknown : goal.returns-in-Ok-clause-unknown
returns-in-Ok-clause-unknown g c =
    known_not _ _ _ (λ e. cc) (c.in-Some.ensures.known ∙ ap (list_any (λ (p : StationPlace). bytes_eq c.args.name.now p.name)) (c.deref.ensures.value ∙ ap (λ r. r.stations) c.self.view_is))

pub returns-clause-unknown : goal.returns-clause-unknown
returns-clause-unknown g c =
    known_not _ _ _ (λ e. cc) (c.in-Some.ensures.known ∙ ap (list_any (λ (p : StationPlace). bytes_eq c.args.name.now p.name)) (c.deref.ensures.value ∙ ap (λ r. r.stations) c.self.view_is))
