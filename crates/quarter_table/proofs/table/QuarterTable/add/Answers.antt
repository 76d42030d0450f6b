use Rattle.std.proofs.Common.{◌≡◌, length, subst, sym, ap, ◌∙◌, arith, length-set}
use Rattle.ledger_model.specs.ByDirection.{flows_toward, plus_flows}
use Rattle.quarter_table.{specs.declared.row.QuarterRow.QuarterRow, specs.Rows.{row_at, with_pair, set_row, AreInOrder, HavePairs}, proofs.Replaced.{order_set, pairs_set}, proofs.Changes.{added_there, added_new}}
use Rattle.quarter_table.proofs.table.QuarterTable.add.Goals as goal

pub invariant_of-self : goal.invariant_of-self
invariant_of-self c =
    let rs = c.self.inside.rows.items in let was = c.self.invariant in
    let e = added_there c.args.quarter (flows_toward c.args.direction c.args.flow) rs c.in-Ok.at c.index-row.result.now c.plus-energy.result c.in-Ok.ensures.stands c.index-row.ensures
    (c.plus-energy.ensures ∙ ap (plus_flows c.index-row.result.now.energy) c.toward-more.ensures) in
    let row = with_pair (flows_toward c.args.direction c.args.flow) (row_at c.args.quarter rs) in
    record {
      in_order = subst AreInOrder (sym e) (order_set row rs was.in_order);
      pairs = subst HavePairs (sym e) (pairs_set row rs was.pairs);
      few = simp length-set was.few;
      room = was.room;
    }

pub invariant_of-self-in-Ok-insert : goal.invariant_of-self-in-Ok-insert
invariant_of-self-in-Ok-insert c =
    let rs = c.self.inside.rows.items in let was = c.self.invariant in
    let e = c.in-Ok-insert.ensures.items ∙ added_new c.args.quarter (flows_toward c.args.direction c.args.flow) rs c.in-Err.at _ c.in-Err.ensures.belongs c.toward-more.ensures in
    let row = with_pair (flows_toward c.args.direction c.args.flow) (row_at c.args.quarter rs) in
    let none : (row_at c.args.quarter c.args.self.now.rows).pairs ≡ 0 =
    ap (λ t. (row_at c.args.quarter t.rows).pairs) (sym c.self.view_is) ∙ ap (λ (r : QuarterRow). r.pairs) c.in-Err.ensures.belongs.absent in
    let rows : length rs ≡ length c.args.self.now.rows = ap (λ t. length t.rows) c.self.view_is in
    let limit : c.self.inside.capacity ≡ c.args.self.now.capacity = ap (λ t. t.capacity) c.self.view_is in
    let some = c.requires.room none in
    record {
      in_order = subst AreInOrder (sym e) (order_set row rs was.in_order);
      pairs = subst HavePairs (sym e) (pairs_set row rs was.pairs);
      few = omega (arith, some, rows, limit, c.in-Ok-insert.ensures.len, c.insert.new.self.ok.0, c.self.inside.rows.ok.0);
      room = omega (arith, was.room, c.in-Ok-insert.ensures.capacity);
    }

pub returns-in-Ok-clause-rows : goal.returns-in-Ok-clause-rows
returns-in-Ok-clause-rows c =
    let rs = c.self.inside.rows.items in
    added_there c.args.quarter (flows_toward c.args.direction c.args.flow) rs c.in-Ok.at c.index-row.result.now c.plus-energy.result c.in-Ok.ensures.stands c.index-row.ensures
    (c.plus-energy.ensures ∙ ap (plus_flows c.index-row.result.now.energy) c.toward-more.ensures)
    ∙ ap (λ t. set_row (with_pair (flows_toward c.args.direction c.args.flow) (row_at c.args.quarter t.rows)) t.rows) c.self.view_is

pub returns-in-Ok-clause-capacity : goal.returns-in-Ok-clause-capacity
returns-in-Ok-clause-capacity c = ap (λ t. t.capacity) c.self.view_is

pub returns-in-Ok-insert-clause-rows : goal.returns-in-Ok-insert-clause-rows
returns-in-Ok-insert-clause-rows c =
    let rs = c.self.inside.rows.items in
    c.in-Ok-insert.ensures.items ∙ added_new c.args.quarter (flows_toward c.args.direction c.args.flow) rs c.in-Err.at _ c.in-Err.ensures.belongs c.toward-more.ensures
    ∙ ap (λ t. set_row (with_pair (flows_toward c.args.direction c.args.flow) (row_at c.args.quarter t.rows)) t.rows) c.self.view_is

pub returns-in-Ok-insert-clause-capacity : goal.returns-in-Ok-insert-clause-capacity
returns-in-Ok-insert-clause-capacity c = ap (λ t. t.capacity) c.self.view_is
