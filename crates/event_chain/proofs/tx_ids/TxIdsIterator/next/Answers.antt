use Rattle.std.{proofs.Common.{◌≡◌, ℕ, suc, ◌+◌, ◌<◌, List, ◌∷◌, Some, length, map, slice_get, drop, sym, ap, ◌∙◌, arith}, proofs.lemmas.List.length-map, proofs.lemmas.Option.slice_get_within}
use Rattle.event_chain.{specs.Table.TxRow, proofs.Drops.{drop_some, drop_none}, proofs.tx_ids.TxIdsIterator.next.Goals.After-copied}
use Rattle.event_chain.proofs.tx_ids.TxIdsIterator.next.Goals as goal

-- The ids of the table's rows.
abbrev ids : List TxRow → List (List ℕ)
ids rows = map (λ (r : TxRow). r.0) rows

-- The id that was read is at the place.
read_id : (c : After-copied) → slice_get (ids c.self.inside.table.now.rows) c.self.inside.next ≡ Some c.copied.result
read_id c = sym c.in-Some.ensures.id ∙ ap (λ (t : List ℕ). Some t) (sym c.copied.ensures)

-- It is the first of those that were to come.
first_is : (c : After-copied) → c.args.self.now ≡ c.copied.result ∷ drop (c.self.inside.next + 1) (ids c.self.inside.table.now.rows)
first_is c =
    let up : c.self.inside.next + 1 ≡ suc c.self.inside.next = omega arith in
    sym c.self.view_is ∙ drop_some (ids c.self.inside.table.now.rows) c.self.inside.next (c.self.inside.next + 1) c.copied.result up (read_id c)

pub invariant_of-self : goal.invariant_of-self
invariant_of-self c =
    let rows = c.self.inside.table.now.rows in
    omega (arith, slice_get_within (ids rows) c.self.inside.next c.copied.result (read_id c), length-map rows (λ (r : TxRow). r.0))

pub returns-in-Some-clause-steps : goal.returns-in-Some-clause-steps
returns-in-Some-clause-steps c = first_is c

pub returns-in-Some-clause-goes : goal.returns-in-Some-clause-goes
returns-in-Some-clause-goes c =
    let rest = drop (c.self.inside.next + 1) (ids c.self.inside.table.now.rows) in
    let fewer : length rest < length c.args.self.now = omega (arith, ap length (first_is c)) in
    record { on = λ _. (tt, tt, fewer); keeps = tt; rests = λ _. tt }

pub returns-in-None-clause-steps : goal.returns-in-None-clause-steps
returns-in-None-clause-steps c = let none = sym c.self.view_is ∙ drop_none (ids c.self.inside.table.now.rows) c.self.inside.next (sym c.in-None.ensures.id) in (none, none)
