use Rattle.std.{proofs.Common.{arith, sym, ap, subst, ◌∙◌, Some}, specs.FinMap.find}
use Rattle.transaction_map.{specs.Map.id_cmp, specs.Places.IsAt, proofs.Places.{at_within, find_gap, find_at}}
use Rattle.transaction_map.proofs.map.TransactionMap.seek.Goals as goal

pub index-requires : goal.index-requires
index-requires g c =
    let at = rw c.deref.ensures.value at c.in-Ok.ensures.at in
    omega (arith, at_within _ _ _ at, c.self.inside.rows.ok)

pub returns-in-Ok-clause-value : goal.returns-in-Ok-clause-value
returns-in-Ok-clause-value g c =
    let at = rw c.deref.ensures.value at c.in-Ok.ensures.at in
    ap (λ v. Some v) (c.value.ensures ∙ ap (λ r. r.1) c.index.ensures) ∙ sym (find_at _ _ _ c.index.result.now at) ∙ ap (λ t. find id_cmp c.args.tx.now t.rows) c.self.view_is

pub returns-in-Ok-clause-at : goal.returns-in-Ok-clause-at
returns-in-Ok-clause-at g c =
    let at = rw c.deref.ensures.value at c.in-Ok.ensures.at in
    subst (λ t. IsAt c.args.tx.now t.rows c.in-Ok.at) c.self.view_is at

pub returns-in-Err-clause-value : goal.returns-in-Err-clause-value
returns-in-Err-clause-value g c =
    let gap = rw c.deref.ensures.value at c.in-Err.ensures.gap in
    sym (find_gap _ _ _ c.self.invariant.rising gap) ∙ ap (λ t. find id_cmp c.args.tx.now t.rows) c.self.view_is
