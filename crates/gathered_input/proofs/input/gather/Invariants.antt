use Rattle.std.{proofs.Common.{ℕ, List, length, take, ◌++◌, ◌-◌, ◌≤◌, ◌≡◌}, specs.Io.KnownBytes.Consumes}
use Rattle.gathered_input.proofs.input.gather.Given as goal

abbrev pub invariant-more : goal.invariant-more
invariant-more g l =
    (l.count ≤ length l.buf) × (length l.buf ≡ length l.initial.buf)
    × ((more : List ℕ) × Consumes (g.R.Read.remaining l.initial.input) (g.R.Read.remaining l.input) more × (take l.count l.buf ≡ take l.first l.initial.buf ++ more))

abbrev pub decreases-more : goal.decreases-more
decreases-more g l = length l.initial.buf - l.count
