use Rattle.std.{proofs.Common.{◌≡◌, All, subst, sym}, specs.Prelude.IfSome, proofs.lemmas.List.Elements.All-nil}
use Rattle.live_server.specs.Browsing.{IsSeenWithBoards}
use Rattle.live_server.proofs.service.seen_with_boards.Goals as goal

pub returns-in-Some : goal.returns-in-Some
returns-in-Some g c =
    subst (λ s. All (IsSeenWithBoards (g.S.Serves.shows s)) c.join.result.items) (subst (λ o. IfSome o (λ h. h.promise.0.value ≡ c.args.serves.now)) c.in-Some.is c.requires) c.join.ensures

pub returns-in-None : goal.returns-in-None
returns-in-None g c =
    let seen = IsSeenWithBoards (g.S.Serves.shows c.args.serves.now) in
    subst (All seen) (sym c.new.ensures.items) (All-nil seen)
