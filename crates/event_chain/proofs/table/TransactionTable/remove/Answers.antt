use Rattle.std.proofs.Common.{sym, ◌∙◌, subst, arith}
use Rattle.event_chain.{specs.Table.without_row, specs.TableKept.IsTable, proofs.TableKept.{IsTable-remove, slotted, table_of}, proofs.table.TransactionTable.remove.Goals.After-push_reserved}
use Rattle.event_chain.proofs.table.TransactionTable.remove.Goals as goal

kept : (c : After-push_reserved) → IsTable c.remove.new.self.rows c.push_reserved.new.self.items c.remove.new.self.capacity
kept c =
    let rows = c.self.inside.rows in let left = without_row c.args.tx.now rows.rows in
    table_of c.remove.new.self left c.push_reserved.new.self.items rows.capacity c.remove.ensures.rows c.remove.ensures.capacity
    (subst (λ sp. IsTable left sp rows.capacity) (sym c.push_reserved.ensures.items)
    (IsTable-remove rows.rows c.self.inside.spare.items rows.capacity c.args.tx.now c.in-Some.row c.self.invariant.0 (sym c.remove.ensures.value ∙ c.in-Some.is)))

pub invariant_of-self : goal.invariant_of-self
invariant_of-self c = (kept (goal.at.invariant_of-self c).After-push_reserved, omega (arith, c.self.invariant.1, c.remove.ensures.capacity, c.push_reserved.ensures.capacity))

pub returns-in-Some-clause-slotted : goal.returns-in-Some-clause-slotted
returns-in-Some-clause-slotted c = slotted c.remove.new.self c.push_reserved.new.self.items (kept (goal.at.returns-in-Some-clause-slotted c).After-push_reserved)
