use Rattle.std.proofs.Common.{◌≤◌, length}
use Rattle.live_server.proofs.boards.read_head.Given as goal

-- what came has room
abbrev pub invariant-loop : goal.invariant-loop
invariant-loop g l = l.held ≤ length l.head
