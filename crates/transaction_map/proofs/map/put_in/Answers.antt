use Rattle.std.{proofs.lemmas.Grind.common_steps, proofs.Common.{arith, cond, sym, ap, ◌∙◌}, specs.List.insert}
use Rattle.transaction_map.proofs.Places.{at_within, gap_within, find_gap, put_gap, written}
use Rattle.transaction_map.proofs.map.put_in.Goals as goal

pub index_mut-requires : goal.index_mut-requires
index_mut-requires g c =
    let at = rw c.deref.ensures.value at c.in-Ok.ensures.at in
    omega (arith, at_within _ _ _ at, c.args.rows.now.ok)

pub insert-requires : goal.insert-requires
insert-requires g c =
    let gap = rw c.deref.ensures.value at c.in-Err.ensures.gap in
    omega (arith, gap_within _ _ _ gap, c.args.rows.now.ok)

pub returns-in-Ok-clause-items : goal.returns-in-Ok-clause-items
returns-in-Ok-clause-items g c =
    let at = rw c.deref.ensures.value at c.in-Ok.ensures.at in
    written _ _ _ c.index_mut.result.now _ c.args.value at c.index_mut.ensures.value c.set.ensures

pub returns-in-Err-clause-items : goal.returns-in-Err-clause-items
returns-in-Err-clause-items g c = grind (arith, common_steps, find_gap, put_gap)

pub returns-in-Err-clause-capacity : goal.returns-in-Err-clause-capacity
returns-in-Err-clause-capacity g c =
    let gap = rw c.deref.ensures.value at c.in-Err.ensures.gap in
    (c.insert.ensures.in_place (c.requires.room (find_gap _ _ _ c.requires.rising gap))).1.0
