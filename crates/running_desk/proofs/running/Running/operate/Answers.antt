use Rattle.std.proofs.Common.{sym, ◌∙◌}
use Rattle.running_desk.proofs.Replies.{ended_at, finished_at, goes_on_at, nothing}
use Rattle.running_desk.proofs.running.Running.operate.Goals as goal

pub loop-init : goal.loop-init
loop-init g c = nothing _ _ _ _ _ _ _ _ c.open-orders.ensures.coming c.new-seen.ensures.items

pub loop-preserved : goal.loop-preserved
loop-preserved g c =
    goes_on_at _ _ _ _ c.in_ok-came.came _ _ _ _ _ _ _ _ _ _ _ _ c.line.ensures c.line-in-loop.ensures
    (sym c.is_last.ensures ∙ c.if-is_last.false) c.loop.invariant c.in_ok-came.ensures c.in_ok-own.ensures c.in_ok-keep.ensures

pub returns-then-is_last : goal.returns-then-is_last
returns-then-is_last g c = ended_at _ _ _ _ c.in_ok-came.came _ _ _ _ _ _ _ _ c.line.ensures c.loop.invariant c.in_ok-came.ensures (sym c.is_last.ensures ∙ c.if-is_last.true)

pub returns-in-LastLine : goal.returns-in-LastLine
returns-in-LastLine g c =
    finished_at _ _ _ _ c.in_ok-came.came _ _ _ _ _ _ _ _ _ _ _ _ c.in-LastLine.is c.line.ensures c.line-in-loop.ensures
    (sym c.is_last.ensures ∙ c.if-is_last.false) c.loop.invariant c.in_ok-came.ensures c.in_ok-own.ensures c.in_ok-keep.ensures
