use Rattle.std.proofs.Common.{All, subst, sym}
use Rattle.live_server.specs.Browsing.{IsSeenWithBoards}
use Rattle.live_server.proofs.service.start_boards.Goals as goal

pub spawn_scoped_with-started-requires-clause-keeps : goal.spawn_scoped_with-started-requires-clause-keeps
spawn_scoped_with-started-requires-clause-keeps g c κs lives r post =
    subst (λ s. All (IsSeenWithBoards (g.S.Serves.shows s)) r.items) (sym c.of-promise.ensures) post
