use Rattle.std.{proofs.Common.{[], ◌∷◌, All, subst, sym}, specs.Prelude.is_ok}
use Rattle.live_server.{specs.Browsing.IsSeenWithBoards, proofs.Appended.appended, proofs.Browsing.of_browsed, proofs.shared.Shared.answer_noted.Goals.{in-Some+in_ok-push, in_default}}
use Rattle.station_link.specs.Attended.{if_seen}
use Rattle.live_server.proofs.shared.Shared.answer_noted.Goals as goal

pub returns-in_err-push-clause-all : goal.returns-in_err-push-clause-all
returns-in_err-push-clause-all g c =
    let shows = g.S.Serves.shows c.args.self.now.running.serves.now in
    let seen = IsSeenWithBoards shows in
    let belongs = of_browsed shows c.args.self.now.running.plan.now.sites.items c.args.self.now.running.desk.now.stations _ _ c.args.request c.in_ok-bytes.ensures in
    appended seen (is_ok c.push.result) _ (c.in-Some.own ∷ []) c.push.new.self.items c.push.ensures.items c.requires (subst (λ o. All seen (if_seen o)) c.in-Some.is belongs)

pub returns-clause-all : goal.returns-clause-all
returns-clause-all g c =
    let shows = g.S.Serves.shows c.args.self.now.running.serves.now in
    let seen = IsSeenWithBoards shows in
    let belongs = of_browsed shows c.args.self.now.running.plan.now.sites.items c.args.self.now.running.desk.now.stations _ _ c.args.request c.in_ok-bytes.ensures in
    elim c.match-own.branch [
      | in-Some+in_ok-push w ↦ subst (λ v. All seen v.items) (sym w.seen-is)
          (appended seen (is_ok w.push.result) _ (w.in-Some.own ∷ []) w.push.new.self.items w.push.ensures.items c.requires (subst (λ o. All seen (if_seen o)) w.in-Some.is belongs))
      | in_default w ↦ subst (λ v. All seen v.items) (sym w.seen-is) c.requires
    ]
