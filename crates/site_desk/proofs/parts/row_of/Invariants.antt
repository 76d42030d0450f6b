use Rattle.std.proofs.Common.{◌≡◌, ◌≤◌}
use Rattle.site_desk.specs.Parts.{row_at}
use Rattle.site_desk.proofs.parts.row_of.Given as goal

-- the stations of the site so far
abbrev pub invariant-loop-k : goal.invariant-loop-k
invariant-loop-k l = record { row : l.row ≡ row_at l.stations l.site l.k; few : l.row ≤ l.k }
