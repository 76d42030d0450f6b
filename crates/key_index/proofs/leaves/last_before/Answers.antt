use Rattle.std.{proofs.Common.{◌-◌, ◌<◌, ◌≡◌, suc, [], ◌++◌, Some, length, take, get_or, slice_get, ap, subst, ◌∙◌, sym, arith}, proofs.lemmas.List.append-nil}
use Rattle.key_index.{specs.Entries.last_of, specs.Leaves.all_of, proofs.Belonging.{filled_at, last_front, read_leaf}}
use Rattle.key_index.proofs.leaves.last_before.Goals as goal

pub overflow_sub-len : goal.overflow_sub-len
overflow_sub-len g c =
    let ls = c.args.leaves.now.items in let j = c.args.at - 1 in let inside : j < length ls = omega (arith, c.requires.0) in
    let some : 0 < length c.index-leaf.result.now = subst (λ leaf. 0 < length leaf) (sym (read_leaf ls j c.index-leaf.result.now inside c.index-leaf.ensures)) (filled_at ls j c.requires.1 inside) in
    omega (arith, some, c.len.ensures.len)

pub entry-requires-then-at-gt0 : goal.entry-requires-then-at-gt0
entry-requires-then-at-gt0 g c =
    let ls = c.args.leaves.now.items in let j = c.args.at - 1 in let inside : j < length ls = omega (arith, c.requires.0) in
    let some : 0 < length c.index-leaf.result.now = subst (λ leaf. 0 < length leaf) (sym (read_leaf ls j c.index-leaf.result.now inside c.index-leaf.ensures)) (filled_at ls j c.requires.1 inside) in
    omega (arith, some, c.len.ensures.len)

pub returns-then-at-gt0 : goal.returns-then-at-gt0
returns-then-at-gt0 g c =
    let ls = c.args.leaves.now.items in let at = c.args.at in let j = at - 1 in let leaf = c.index-leaf.result.now in let e = c.entry-then-at-gt0.result in
    let inside : j < length ls = omega (arith, c.requires.0) in let up : suc j ≡ at = omega (arith, c.if-at-gt0.true) in let none : c.args.place ≡ 0 = omega (arith, c.if-place-gt0.false) in
    let here = read_leaf ls j leaf inside c.index-leaf.ensures in
    let found : last_of leaf ≡ Some e = ap (λ n. slice_get leaf (n - 1)) (sym c.len.ensures.len) ∙ c.entry-then-at-gt0.ensures in
    sym found ∙ ap last_of here ∙ sym (last_front ls j c.requires.1 inside) ∙ ap (λ n. last_of (all_of (take n ls))) up ∙ ap last_of (sym (append-nil (all_of (take at ls))))
    ∙ ap (λ n. last_of (all_of (take at ls) ++ take n (get_or ls at []))) (sym none)
