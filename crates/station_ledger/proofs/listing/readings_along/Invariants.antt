use Rattle.std.{proofs.Common.{◌≡◌, ◌++◌, length}, specs.List.flat_map}
use Rattle.gap_list.specs.Walk.{left, StandsAt}
use Rattle.station_ledger.{specs.Listing.placed_from, specs.Numbered.AreNumbers, specs.Quarters.readings_at}
use Rattle.station_ledger.proofs.listing.readings_along.Given as goal

-- the readings of the numbers that are left come behind those that are listed
abbrev pub invariant-loop-place : goal.invariant-loop-place
invariant-loop-place g l =
    let rest = left g.W.NumberWalk.ahead l.walk l.place in
    record {
      listed : l.listed.items ++ flat_map (λ n. placed_from n 0 (readings_at l.fn.direction l.chains (record { tx = l.tx; seq = n }))) rest
          ≡ flat_map (λ n. placed_from n 0 (readings_at l.fn.direction l.chains (record { tx = l.tx; seq = n }))) (g.W.NumberWalk.numbers l.walk);
      stands : StandsAt g.W.NumberWalk.ahead l.walk l.place;
      few : AreNumbers rest;
    }

abbrev pub decreases-loop-place : goal.decreases-loop-place
decreases-loop-place g l = length (left g.W.NumberWalk.ahead l.walk l.place)
