use Rattle.std.proofs.Common.{◌≡◌, ◌+◌, ◌++◌, length}
use Rattle.slot_arena.specs.Arena.{held_count}
use Rattle.event_store.specs.Links.{chain, IsRun, IsLast, AreKept}
use Rattle.event_store.proofs.links.put_all.Given as goal

abbrev pub invariant-loop-rest : goal.invariant-loop-rest
invariant-loop-rest l = record {
  run : IsRun l.links l.owner l.ends.first l.count;
  ends : IsLast l.links l.owner l.ends.first l.count l.ends.last;
  whole : l.rest ++ chain l.links l.ends.first l.count ≡ l.readings;
  count : length l.rest + l.count ≡ length l.readings;
  kept : AreKept l.fn.links l.links;
  held : held_count l.links ≡ held_count l.fn.links + l.count;
  capacity : length l.links ≡ length l.fn.links;
}

abbrev pub decreases-loop-rest : goal.decreases-loop-rest
decreases-loop-rest l = length l.rest
