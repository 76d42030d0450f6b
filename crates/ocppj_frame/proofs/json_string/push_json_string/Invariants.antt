use Rattle.std.{proofs.Common.{◌≡◌, ◌∷◌, ◌++◌}, specs.List.flat_map}
use Rattle.ocppj_frame.specs.Reply.{escaped}
use Rattle.ocppj_frame.proofs.json_string.push_json_string.Given as goal

-- what was there, the opening quote, and the characters so far
abbrev pub invariant-loop-character : goal.invariant-loop-character
invariant-loop-character l = l.out.bytes ≡ l.fn.out.bytes ++ 34 ∷ flat_map escaped l.yielded
