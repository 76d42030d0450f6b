use Rattle.std.{proofs.Common.{◌≡◌, ◌++◌, take}, specs.List.flat_map}
use Rattle.board_report.specs.Listing.{part_line}
use Rattle.board_report.proofs.listing.put_parts.Given as goal

-- the lines so far
abbrev pub invariant-loop-part : goal.invariant-loop-part
invariant-loop-part l = l.text.items ≡ l.fn.text.items ++ flat_map (part_line l.period) (take l.part-index l.parts)
