use Rattle.std.proofs.Common.{arith, sym, ap, ◌∙◌, Some}
use Rattle.transaction_map.proofs.Places.{at_within, find_gap, find_at, without_at, without_gap}
use Rattle.transaction_map.proofs.map.take_out.Goals as goal

pub remove-requires : goal.remove-requires
remove-requires g c =
    let at = rw c.deref.ensures.value at c.in-Ok.ensures.at in
    omega (arith, at_within _ _ _ at, c.args.rows.now.ok)

pub returns-in-Ok-clause-items : goal.returns-in-Ok-clause-items
returns-in-Ok-clause-items g c =
    let at = rw c.deref.ensures.value at c.in-Ok.ensures.at in
    c.remove.ensures.items ∙ sym (without_at _ _ _ c.requires.rising at)

pub returns-in-Ok-clause-value : goal.returns-in-Ok-clause-value
returns-in-Ok-clause-value g c =
    let at = rw c.deref.ensures.value at c.in-Ok.ensures.at in
    ap (λ v. Some v) (c.value.ensures ∙ ap (λ r. r.1) c.remove.ensures.value) ∙ sym (find_at _ _ _ c.remove.result at)

pub returns-in-Err-clause-items : goal.returns-in-Err-clause-items
returns-in-Err-clause-items g c =
    let gap = rw c.deref.ensures.value at c.in-Err.ensures.gap in
    sym (without_gap _ _ _ c.requires.rising gap)

pub returns-in-Err-clause-value : goal.returns-in-Err-clause-value
returns-in-Err-clause-value g c =
    let gap = rw c.deref.ensures.value at c.in-Err.ensures.gap in
    sym (find_gap _ _ _ c.requires.rising gap)
