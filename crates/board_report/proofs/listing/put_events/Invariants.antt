use Rattle.std.{proofs.Common.{◌≡◌, ◌++◌, take}, specs.List.flat_map}
use Rattle.board_report.specs.Listing.{event_line}
use Rattle.board_report.proofs.listing.put_events.Given as goal

-- the lines so far
abbrev pub invariant-loop-event : goal.invariant-loop-event
invariant-loop-event l = l.text.items ≡ l.fn.text.items ++ flat_map event_line (take l.event-index l.events)
