use Rattle.std.proofs.Common.{ap}
use Rattle.ledger_model.specs.Deltas.{pairs_between}
use Rattle.station_ledger.{specs.ByMoment.bare, proofs.Walks.{may_first, moving_one, first_and_more}}
use Rattle.station_ledger.proofs.by_moment.move_row.Goals as goal

pub move_across-flow-requires : goal.move_across-flow-requires
move_across-flow-requires c =
    let steps = first_and_more c.loop-left.left.now c.first-item.result c.in-len1-up.len_at_least c.first-item.is in
    may_first c.args.period c.args.direction _ _ c.loop-left.quarters (ap (λ rs. pairs_between c.loop-left.last (bare rs) c.args.gap.now.behind) steps) c.args.way c.loop-left.invariant.may

pub loop-left-preserved : goal.loop-left-preserved
loop-left-preserved c =
    let steps = first_and_more c.loop-left.left.now c.first-item.result c.in-len1-up.len_at_least c.first-item.is in
    moving_one (ap (λ rs. pairs_between c.loop-left.last (bare rs) c.args.gap.now.behind) steps) c.loop-left.invariant c.move_across-flow.ensures c.plus-total.ensures
