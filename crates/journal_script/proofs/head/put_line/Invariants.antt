use Rattle.std.proofs.Common.{◌≡◌, ◌∷◌, ◌++◌, flat_map, take}
use Rattle.journal_script.proofs.head.put_line.Given as goal

abbrev pub invariant-loop-word : goal.invariant-loop-word
invariant-loop-word l = l.head.items ≡ l.fn.head.items ++ l.first ++ flat_map (λ w. 32 ∷ w.now) (take l.word-index l.words)
