use Rattle.std.proofs.Common.{◌≡◌, map}
use Rattle.marked_json.specs.Wanted.{within}
use Rattle.marked_json.proofs.wanted.find_among.Given as goal

abbrev pub invariant-loop-key : goal.invariant-loop-key
invariant-loop-key l = map (within l.key-iterator) l.wanted ≡ map (within l.members.entries) l.fn.wanted
