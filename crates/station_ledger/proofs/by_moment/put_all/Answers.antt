use Rattle.std.proofs.Common.{◌-◌, take, drop, length, sym, ap, subst, ◌∙◌, arith}
use Rattle.station_ledger.{specs.ByMoment.{ArePuttable, put_each}, proofs.MomentRanks.length-put, proofs.Walks.first_and_more}
use Rattle.station_ledger.proofs.by_moment.put_all.Goals as goal

pub put-requires-clause-absent : goal.put-requires-clause-absent
put-requires-clause-absent c =
    let steps = first_and_more c.loop-left.left.now c.first-item.result c.in-len1-up.len_at_least c.first-item.is in
    (subst (λ l. ArePuttable l c.loop-left.index.entries) steps c.loop-left.invariant.apart).0

pub loop-left-preserved : goal.loop-left-preserved
loop-left-preserved c =
    let x = c.first-item.result in let left = c.loop-left.left.now in let rest = take (length left - 1) (drop 1 left) in let ts = c.loop-left.index.entries in
    let was = c.loop-left.invariant in let put = c.put.ensures in let steps = first_and_more left x c.in-len1-up.len_at_least c.first-item.is in
    let apart = subst (λ l. ArePuttable l ts) steps was.apart in let long = ap length steps in let more = ap length put.entries ∙ length-put x ts in
    record {
      room = omega (arith, was.room, long, more, put.capacity);
      apart = subst (ArePuttable rest) (sym put.entries) apart.1;
      entries = ap (put_each rest) put.entries ∙ ap (λ l. put_each l ts) (sym steps) ∙ was.entries;
      capacity = put.capacity ∙ was.capacity;
    }
