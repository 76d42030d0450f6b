use Rattle.std.proofs.Common.{◌≡◌, suc, ◌-◌, arith}
use Rattle.event_store.proofs.Runs.{give_step}
use Rattle.event_store.proofs.links.take_all.Goals as goal

pub loop-left-preserved : goal.loop-left-preserved
loop-left-preserved c =
    let was = c.loop-left.invariant in let left = c.loop-left.left in let up : left ≡ suc (left - 1) = omega arith in
    let step = give_step c.args.links.now c.loop-left.links c.give-link.new.self c.args.owner c.loop-left.here left (left - 1)
    c.new.result c.give-link.result up c.new.ensures c.give-link.ensures.value c.give-link.ensures.given was.run was.kept in
    record { run = step.run; kept = step.kept; held = omega (arith, step.held, was.held); capacity = omega (arith, step.same, was.capacity) }
