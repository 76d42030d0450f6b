use Rattle.std.proofs.Common.{Some, ap, sym, ◌∙◌, arith}
use Rattle.site_desk.proofs.Twice.{first_here, first_later, same_at, twice_here, twice_later}
use Rattle.site_desk.proofs.plan.first_twice.Goals as goal

pub returns-then-has_station-clause-stands : goal.returns-then-has_station-clause-stands
returns-then-has_station-clause-stands c =
    let here = twice_here (λ s. s.name) c.args.stations.now c.loop-k.k c.index-stations-k.result (omega arith) (sym c.has_station.ensures ∙ c.if-has_station.true) in
    sym here ∙ c.loop-k.invariant.stands

pub returns-then-has_station-clause-first : goal.returns-then-has_station-clause-first
returns-then-has_station-clause-first c =
    sym c.loop-k.invariant.first ∙ first_here (λ s. s.name) c.args.stations.now c.loop-k.k c.index-stations-k.result (omega arith) (sym c.has_station.ensures ∙ c.if-has_station.true)
    ∙ ap (λ s. Some s.name) (same_at c.args.stations.now c.loop-k.k c.index-stations-k.result c.index-stations-k-then-has_station.result (omega arith))

pub loop-k-preserved : goal.loop-k-preserved
loop-k-preserved c =
    let once = sym c.has_station.ensures ∙ c.if-has_station.false in
    record {
      stands = twice_later (λ s. s.name) c.args.stations.now c.loop-k.k c.index-stations-k.result (omega arith) once ∙ c.loop-k.invariant.stands;
      first = first_later (λ s. s.name) c.args.stations.now c.loop-k.k c.index-stations-k.result (omega arith) once ∙ c.loop-k.invariant.first;
    }
