use Rattle.std.proofs.Common.{ap, ◌∙◌, arith, option_map}
use Rattle.event_chain.{specs.declared.row.TableRow.TableRow, specs.Table.{Table, row_of}, specs.TableKept.IsTable, proofs.TableKept.{table_set, slotted}, proofs.table.TransactionTable.set.Goals.After-put}
use Rattle.event_chain.proofs.table.TransactionTable.set.Goals as goal

kept : (c : After-put) → IsTable c.put.new.self.rows c.self.inside.spare.items c.put.new.self.capacity
kept c = table_set c.self.inside.rows c.put.new.self c.self.inside.spare.items c.args.tx.now c.args.row c.self.invariant.0
    (ap (λ (t : Table). option_map (λ (r : TableRow). r.slot) (row_of c.args.tx.now t.rows)) c.self.view_is ∙ c.requires) c.put.ensures.rows c.put.ensures.capacity

pub invariant_of-self : goal.invariant_of-self
invariant_of-self c = (kept (goal.at.invariant_of-self c).After-put, omega (arith, c.self.invariant.1, c.put.ensures.capacity))

pub returns-clause-slotted : goal.returns-clause-slotted
returns-clause-slotted c = slotted c.put.new.self c.self.inside.spare.items (kept (goal.at.returns-clause-slotted c).After-put)
