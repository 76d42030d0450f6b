use Rattle.std.proofs.Common.{ap}
use Rattle.ledger_model.specs.Deltas.{pairs_between}
use Rattle.station_ledger.proofs.Walks.{moving_one, may_first}
use Rattle.station_ledger.proofs.pairs.move_stored.Goals as goal

pub move_across-flow-requires : goal.move_across-flow-requires
move_across-flow-requires c = may_first c.args.period c.args.direction _ _ c.loop-reading.quarters
    (ap (λ rs. pairs_between c.loop-reading.last rs c.args.sides.behind) c.in-Some.ensures.steps) c.args.way c.loop-reading.invariant.may

pub loop-reading-preserved : goal.loop-reading-preserved
loop-reading-preserved c =
    moving_one (ap (λ rs. pairs_between c.loop-reading.last rs c.args.sides.behind) c.in-Some.ensures.steps) c.loop-reading.invariant c.move_across-flow.ensures c.plus-total.ensures
