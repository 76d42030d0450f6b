use Rattle.std.proofs.Common.{◌≡◌, ◌++◌, map, take, drop}
use Rattle.marked_json.specs.Wanted.{offered}
use Rattle.marked_json.proofs.wanted.offer_each.Given as goal

abbrev pub invariant-loop-one : goal.invariant-loop-one
invariant-loop-one l = l.wanted ≡ map (offered l.key l.member) (take l.one-index l.fn.wanted) ++ drop l.one-index l.fn.wanted
