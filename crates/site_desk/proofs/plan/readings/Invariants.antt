use Rattle.std.{proofs.Common.{◌≡◌, ◌*◌, ◌≤◌, take}, specs.Prelude.sum_by}
use Rattle.site_desk.proofs.plan.readings.Given as goal

-- the readings of the stations so far
abbrev pub invariant-loop-station : goal.invariant-loop-station
invariant-loop-station l = record { sum : l.sum ≡ sum_by (λ s. s.limits.readings) (take l.station-index l.stations); few : l.sum ≤ l.station-index * 65_536 }
