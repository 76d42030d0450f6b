use Rattle.std.{proofs.Common.{All, subst, sym}, proofs.lemmas.List.Elements.All-nil}
use Rattle.live_server.specs.Browsing.{IsSeenWithBoards}
use Rattle.live_server.proofs.shared.Shared.serve_boards.Goals as goal

pub loop-init : goal.loop-init
loop-init g c =
    let seen = IsSeenWithBoards (g.S.Serves.shows c.args.self.now.running.serves.now) in
    subst (All seen) (sym c.new-seen.ensures.items) (All-nil seen)
