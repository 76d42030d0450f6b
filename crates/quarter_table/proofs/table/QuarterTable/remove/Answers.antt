use Rattle.std.proofs.Common.{◌≡◌, ◌<◌, subst, sym, ap, ◌∙◌, arith, length-set}
use Rattle.ledger_model.specs.ByDirection.{flows_toward, minus_flows, CanMinusFlows}
use Rattle.quarter_table.{specs.declared.row.QuarterRow.QuarterRow, specs.Rows.{row_at, without_pair, set_row, AreInOrder, HavePairs}, proofs.Replaced.{order_set, pairs_set}, proofs.Changes.{row_read, removed_there, removed_last}}
use Rattle.quarter_table.proofs.table.QuarterTable.remove.Goals as goal

pub invariant_of-self : goal.invariant_of-self
invariant_of-self c =
    let rs = c.self.inside.rows.items in let was = c.self.invariant in
    let same = row_read c.args.quarter rs c.in-Ok.at c.index-row.result.now c.in-Ok.ensures.stands c.index-row.ensures in
    let one : (row_at c.args.quarter rs).pairs ≡ 1 = sym (ap (λ (r : QuarterRow). r.pairs) same) ∙ c.if-row-eq1.true in
    let e = c.remove.ensures.items ∙ removed_last c.args.quarter (flows_toward c.args.direction c.args.flow) rs c.in-Ok.at c.in-Ok.ensures.stands one in
    let row = without_pair (flows_toward c.args.direction c.args.flow) (row_at c.args.quarter rs) in
    record {
      in_order = subst AreInOrder (sym e) (order_set row rs was.in_order);
      pairs = subst HavePairs (sym e) (pairs_set row rs was.pairs);
      few = omega (arith, was.few, c.remove.ensures.len);
      room = omega (arith, was.room, c.remove.ensures.capacity);
    }

pub overflow_sub-row : goal.overflow_sub-row
overflow_sub-row c =
    let same = row_read c.args.quarter c.self.inside.rows.items c.in-Ok.at c.index-row.result.now c.in-Ok.ensures.stands c.index-row.ensures in
    let there : 0 < c.index-row.result.now.pairs = subst (λ (r : QuarterRow). 0 < r.pairs) (sym (same ∙ ap (λ t. row_at c.args.quarter t.rows) c.self.view_is)) c.requires.there in
    omega (arith, there)

pub minus-energy-requires : goal.minus-energy-requires
minus-energy-requires c =
    let same = row_read c.args.quarter c.self.inside.rows.items c.in-Ok.at c.index-row.result.now c.in-Ok.ensures.stands c.index-row.ensures in
    subst (CanMinusFlows c.index-row.result.now.energy) (sym c.toward-less.ensures)
    (subst (λ (r : QuarterRow). CanMinusFlows r.energy (flows_toward c.args.direction c.args.flow)) (sym (same ∙ ap (λ t. row_at c.args.quarter t.rows) c.self.view_is)) c.requires.sums)

pub invariant_of-self-else-row-eq1 : goal.invariant_of-self-else-row-eq1
invariant_of-self-else-row-eq1 c =
    let rs = c.self.inside.rows.items in let was = c.self.invariant in
    let same = row_read c.args.quarter rs c.in-Ok.at c.index-row.result.now c.in-Ok.ensures.stands c.index-row.ensures in
    let there : 0 < (row_at c.args.quarter rs).pairs = subst (λ t. 0 < (row_at c.args.quarter t.rows).pairs) (sym c.self.view_is) c.requires.there in
    let pairs = ap (λ (r : QuarterRow). r.pairs) same in
    let more : 1 < (row_at c.args.quarter rs).pairs = omega (arith, there, pairs, c.if-row-eq1.false) in
    let e = removed_there c.args.quarter (flows_toward c.args.direction c.args.flow) rs c.in-Ok.at c.index-row.result.now c.minus-energy.result c.in-Ok.ensures.stands c.index-row.ensures
    (c.minus-energy.ensures ∙ ap (minus_flows c.index-row.result.now.energy) c.toward-less.ensures) more in
    let row = without_pair (flows_toward c.args.direction c.args.flow) (row_at c.args.quarter rs) in
    record {
      in_order = subst AreInOrder (sym e) (order_set row rs was.in_order);
      pairs = subst HavePairs (sym e) (pairs_set row rs was.pairs);
      few = simp length-set was.few;
      room = was.room;
    }

pub returns-then-row-eq1-clause-rows : goal.returns-then-row-eq1-clause-rows
returns-then-row-eq1-clause-rows c =
    let rs = c.self.inside.rows.items in
    let same = row_read c.args.quarter rs c.in-Ok.at c.index-row.result.now c.in-Ok.ensures.stands c.index-row.ensures in
    let one : (row_at c.args.quarter rs).pairs ≡ 1 = sym (ap (λ (r : QuarterRow). r.pairs) same) ∙ c.if-row-eq1.true in
    c.remove.ensures.items ∙ removed_last c.args.quarter (flows_toward c.args.direction c.args.flow) rs c.in-Ok.at c.in-Ok.ensures.stands one
    ∙ ap (λ t. set_row (without_pair (flows_toward c.args.direction c.args.flow) (row_at c.args.quarter t.rows)) t.rows) c.self.view_is

pub returns-else-row-eq1-clause-rows : goal.returns-else-row-eq1-clause-rows
returns-else-row-eq1-clause-rows c =
    let rs = c.self.inside.rows.items in
    let same = row_read c.args.quarter rs c.in-Ok.at c.index-row.result.now c.in-Ok.ensures.stands c.index-row.ensures in
    let there : 0 < (row_at c.args.quarter rs).pairs = subst (λ t. 0 < (row_at c.args.quarter t.rows).pairs) (sym c.self.view_is) c.requires.there in
    let pairs = ap (λ (r : QuarterRow). r.pairs) same in
    let more : 1 < (row_at c.args.quarter rs).pairs = omega (arith, there, pairs, c.if-row-eq1.false) in
    removed_there c.args.quarter (flows_toward c.args.direction c.args.flow) rs c.in-Ok.at c.index-row.result.now c.minus-energy.result c.in-Ok.ensures.stands c.index-row.ensures
    (c.minus-energy.ensures ∙ ap (minus_flows c.index-row.result.now.energy) c.toward-less.ensures) more
    ∙ ap (λ t. set_row (without_pair (flows_toward c.args.direction c.args.flow) (row_at c.args.quarter t.rows)) t.rows) c.self.view_is
