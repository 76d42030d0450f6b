use Rattle.std.proofs.Common.{◌≡◌, ◌++◌, length, map}
use Rattle.event_chain.{specs.EventLines.line_at, specs.Flat.segment, proofs.Walks.{IsFound, on_from}}
use Rattle.event_chain.proofs.event_lines.lines_under.Given as goal

-- the lines of the places that are left come behind those that are listed
abbrev pub invariant-loop-place : goal.invariant-loop-place
invariant-loop-place l =
    (l.lines.items ++ map (line_at l.store.slots) (on_from l.stored.entries l.place) ≡ map (line_at l.store.slots) (segment l.fn.slot l.stored.entries))
    × IsFound l.stored.entries l.place

abbrev pub decreases-loop-place : goal.decreases-loop-place
decreases-loop-place l = length (on_from l.stored.entries l.place)
