use Rattle.std.{proofs.Common.{◌≡◌, ◌+◌, ◌≤◌, not, take}, specs.List.count_by}
use Rattle.board_report.proofs.listing.counts.Given as goal

-- how many there are so far
abbrev pub invariant-loop-event : goal.invariant-loop-event
invariant-loop-event l =
    (l.live ≡ count_by (λ e. not e.voided) (take l.event-index l.events)) × ((l.voided ≡ count_by (λ e. e.voided) (take l.event-index l.events)) × (l.live + l.voided ≤ l.event-index))
