use Rattle.std.proofs.Common.{◌≡◌, ◌++◌, take, drop}
use Rattle.station_ledger.specs.ByMoment.{beyond, fitting}
use Rattle.station_ledger.proofs.by_moment.count_in_front.Given as goal

-- all so far come in front
abbrev pub invariant-loop-place : goal.invariant-loop-place
invariant-loop-place l = record {
  run : fitting l.behind l.readings ≡ take l.place l.readings ++ fitting l.behind (drop l.place l.readings);
  rest : beyond l.behind l.readings ≡ beyond l.behind (drop l.place l.readings);
}
