use Rattle.std.{proofs.Common.{◌≡◌, false, take, bytes_eq}, specs.List.list_any}
use Rattle.site_desk.proofs.roster.number_of.Given as goal

-- none so far has the name
abbrev pub invariant-loop-k : goal.invariant-loop-k
invariant-loop-k l = list_any (λ p. bytes_eq l.name p.name) (take l.k l.places) ≡ false
