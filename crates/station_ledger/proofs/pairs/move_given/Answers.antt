use Rattle.std.proofs.Common.{rules, ◌≡◌, ap, subst}
use Rattle.ledger_model.{specs.Deltas.pairs_between, specs.Event.toward}
use Rattle.station_ledger.proofs.Walks.{IsMoving, may_first, moving_one, first_and_more, toward_first, toward_rest}
use Rattle.station_ledger.proofs.pairs.move_given.Goals as goal

pub move_across-flow-requires : goal.move_across-flow-requires
move_across-flow-requires c =
    let d = c.args.direction in let r = c.reading-item.result in let is : r.direction ≡ d = search rules in
    let steps = first_and_more c.loop-left.left.now r c.in-len1-up.len_at_least c.reading-item.is in
    may_first c.args.period d _ _ c.loop-left.quarters (ap (λ rs. pairs_between c.loop-left.last rs c.args.sides.behind) (toward_first d _ _ r steps is)) c.args.way c.loop-left.invariant.may

pub loop-left-preserved-then-eq : goal.loop-left-preserved-then-eq
loop-left-preserved-then-eq c =
    let d = c.args.direction in let r = c.reading-item.result in let is : r.direction ≡ d = search rules in
    let steps = first_and_more c.loop-left.left.now r c.in-len1-up.len_at_least c.reading-item.is in
    moving_one (ap (λ rs. pairs_between c.loop-left.last rs c.args.sides.behind) (toward_first d _ _ r steps is)) c.loop-left.invariant c.move_across-flow.ensures c.plus-total.ensures

pub loop-left-preserved : goal.loop-left-preserved
loop-left-preserved c =
    let d = c.args.direction in let r = c.reading-item.result in let other : r.direction ≡ d → ⊥ = search rules in
    let steps = first_and_more c.loop-left.left.now r c.in-len1-up.len_at_least c.reading-item.is in
    let between = pairs_between c.args.sides.before (toward d c.args.readings.now) c.args.sides.behind in
    subst (λ rs. IsMoving c.args.way c.args.period d between (pairs_between c.loop-left.last rs c.args.sides.behind) c.args.quarters.now c.loop-left.quarters
    c.args.work.now c.loop-left.work c.loop-left.total)
    (toward_rest d _ _ r steps other) c.loop-left.invariant
