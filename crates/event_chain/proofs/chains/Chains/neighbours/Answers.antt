use Rattle.std.proofs.Common.{ap, ◌∙◌}
use Rattle.ledger_model.specs.Deltas.{first_reading, last_reading, own_readings, before_key, behind_key}
use Rattle.event_chain.{specs.Table.row_of, proofs.Facts.all_seen}
use Rattle.event_chain.proofs.chains.Chains.neighbours.Goals as goal

pub sides_of-requires-clause-keyed : goal.sides_of-requires-clause-keyed
sides_of-requires-clause-keyed c = c.self.invariant.keyed

pub sides_of-requires-clause-carry : goal.sides_of-requires-clause-carry
sides_of-requires-clause-carry c = c.self.invariant.indexed.carry c.args.direction

pub sides_of-requires-clause-row : goal.sides_of-requires-clause-row
sides_of-requires-clause-row c = c.get-row.ensures.value ∙ ap (λ t. row_of t c.self.inside.table.rows) c.tx.ensures

pub returns-clause-before : goal.returns-clause-before
returns-clause-before c = let key = c.args.key.now in
    c.sides_of.ensures.before ∙ ap (λ xs. last_reading (own_readings c.args.direction key.tx (before_key key xs))) (all_seen c.self.invariant c.self.view_is)

pub returns-clause-behind : goal.returns-clause-behind
returns-clause-behind c = let key = c.args.key.now in
    c.sides_of.ensures.behind ∙ ap (λ xs. first_reading (own_readings c.args.direction key.tx (behind_key key xs))) (all_seen c.self.invariant c.self.view_is)
