use Rattle.std.proofs.Common.{All}
use Rattle.live_server.specs.Browsing.{IsSeenWithBoards}
use Rattle.live_server.proofs.shared.Shared.serve_boards.Given as goal

-- what came so far was seen with boards
abbrev pub invariant-loop : goal.invariant-loop
invariant-loop g l = All (IsSeenWithBoards (g.S.Serves.shows l.self.running.serves.now)) l.seen.items
