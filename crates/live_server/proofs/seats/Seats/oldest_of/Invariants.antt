use Rattle.live_server.specs.Seated.{IsOldestOf}
use Rattle.live_server.proofs.seats.Seats.oldest_of.Given as goal

-- the oldest of the workers before this one
abbrev pub invariant-loop-worker : goal.invariant-loop-worker
invariant-loop-worker l = IsOldestOf l.worker l.station l.self.served.items l.oldest
