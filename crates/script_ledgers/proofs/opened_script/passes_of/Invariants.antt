use Rattle.std.proofs.Common.{◌≡◌, map}
use Rattle.site_desk.specs.Cell.{held}
use Rattle.script_ledgers.proofs.opened_script.passes_of.Given as goal

-- the passes so far are those of the tallies so far
abbrev pub invariant-loop-tally : goal.invariant-loop-tally
invariant-loop-tally g l = l.passes.items ≡ map (λ t. held t 0) l.yielded
