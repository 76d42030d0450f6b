use Rattle.std.proofs.Common.{◌≡◌, ◌+◌, length}
use Rattle.slot_arena.specs.Arena.{held_count}
use Rattle.event_store.specs.Links.{IsRun, AreOthersKept}
use Rattle.event_store.proofs.links.take_all.Given as goal

abbrev pub invariant-loop-left : goal.invariant-loop-left
invariant-loop-left l = record {
  run : IsRun l.links l.owner l.here l.left;
  kept : AreOthersKept l.owner l.fn.links l.links;
  held : held_count l.links + l.count ≡ held_count l.fn.links + l.left;
  capacity : length l.links ≡ length l.fn.links;
}

abbrev pub decreases-loop-left : goal.decreases-loop-left
decreases-loop-left l = l.left
