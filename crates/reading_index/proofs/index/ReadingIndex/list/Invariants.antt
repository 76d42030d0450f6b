use Rattle.std.proofs.Common.{◌≡◌, ◌≤◌, ◌++◌, length, map}
use Rattle.reading_index.{specs.Ranks.{owner, owner_of}, specs.Timed.{from_on, owned, placed_at}}
use Rattle.reading_index.proofs.index.ReadingIndex.list.Given as goal

-- the readings from the key on come behind those that are listed
abbrev pub invariant-loop-entry : goal.invariant-loop-entry
invariant-loop-entry l = let own = owned (owner l.slot l.fn.direction) l.self.entries in
    (l.listed.items ++ map placed_at (from_on l.from own) ≡ l.fn.listed.items ++ map placed_at own)
    × (owner l.slot l.fn.direction ≤ owner_of l.from)

abbrev pub decreases-loop-entry : goal.decreases-loop-entry
decreases-loop-entry l = length (from_on l.from (owned (owner l.slot l.fn.direction) l.self.entries))
