use Rattle.std.proofs.Common.{◌≡◌, ◌<◌, ap, ◌∙◌, subst, refl, arith, None}
use Rattle.event_chain.{specs.declared.row.TableRow.TableRow, specs.Table.{Table, IsFresh, row_of, with_row}, specs.TableKept.{IsTable, AreSpare}, proofs.TableKept.{IsLast, IsTable-add, last_spare, slotted, table_of}, proofs.table.TransactionTable.add.Goals.After-put}
use Rattle.event_chain.proofs.table.TransactionTable.add.Goals as goal

kept : (c : After-put) → IsTable c.put.new.self.rows c.pop.new.self.items c.put.new.self.capacity
kept c =
    let m = c.self.inside in let tx = c.args.tx.now in let row : TableRow = record { slot = c.in-Some.slot; live = 0; ends = 0 } in
    let absent : row_of tx m.rows.rows ≡ None = ap (λ (t : Table). row_of tx t.rows) c.self.view_is ∙ c.requires.absent in
    table_of c.put.new.self (with_row tx row m.rows.rows) c.pop.new.self.items m.rows.capacity c.put.ensures.rows c.put.ensures.capacity
    (IsTable-add m.rows.rows m.spare.items c.pop.new.self.items m.rows.capacity c.in-Some.slot tx row c.in-Some.ensures.items c.self.invariant.0 absent refl)

last : (c : After-put) → IsLast c.self.inside.rows.capacity c.in-Some.slot c.self.inside.rows.rows c.pop.new.self.items
last c = let m = c.self.inside in
    last_spare m.rows.capacity c.in-Some.slot m.rows.rows c.pop.new.self.items (subst (AreSpare m.rows.capacity m.rows.rows) c.in-Some.ensures.items c.self.invariant.0.spare_are)

pub invariant_of-self : goal.invariant_of-self
invariant_of-self c = (kept (goal.at.invariant_of-self c).After-put, omega (arith, c.self.invariant.1, c.put.ensures.capacity, c.pop.ensures.capacity))

pub returns-clause-fresh : goal.returns-clause-fresh
returns-clause-fresh c = subst (λ (t : Table). IsFresh c.in-Some.slot t.rows) c.self.view_is (last (goal.at.returns-clause-fresh c).After-put).fresh

pub returns-clause-within : goal.returns-clause-within
returns-clause-within c = subst (λ (t : Table). c.in-Some.slot < t.capacity) c.self.view_is (last (goal.at.returns-clause-within c).After-put).below

pub returns-clause-slotted : goal.returns-clause-slotted
returns-clause-slotted c = slotted c.put.new.self c.pop.new.self.items (kept (goal.at.returns-clause-slotted c).After-put)
