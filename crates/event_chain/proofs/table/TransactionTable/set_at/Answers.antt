use Rattle.std.proofs.Common.{ap, ◌∙◌, arith, option_map}
use Rattle.event_chain.{specs.declared.row.TableRow.TableRow, specs.Table.{Table, row_of}, specs.TableKept.IsTable, proofs.TableKept.{table_set, slotted}, proofs.table.TransactionTable.set_at.Goals.After-set_at}
use Rattle.event_chain.proofs.table.TransactionTable.set_at.Goals as goal

kept : (c : After-set_at) → IsTable c.set_at.new.self.rows c.self.inside.spare.items c.set_at.new.self.capacity
kept c = table_set c.self.inside.rows c.set_at.new.self c.self.inside.spare.items c.args.tx.now c.args.row c.self.invariant.0
    (ap (λ (t : Table). option_map (λ (r : TableRow). r.slot) (row_of c.args.tx.now t.rows)) c.self.view_is ∙ c.requires.slot) c.set_at.ensures.rows c.set_at.ensures.capacity

pub invariant_of-self : goal.invariant_of-self
invariant_of-self c = (kept (goal.at.invariant_of-self c).After-set_at, omega (arith, c.self.invariant.1, c.set_at.ensures.capacity))

pub returns-clause-slotted : goal.returns-clause-slotted
returns-clause-slotted c = slotted c.set_at.new.self c.self.inside.spare.items (kept (goal.at.returns-clause-slotted c).After-set_at)
