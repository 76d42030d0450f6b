use Rattle.std.{proofs.Common.{◌+◌, ◌<◌, ◌≤◌, ◌≡◌, suc, [], ◌++◌, Some, length, drop, get_or, slice_get, ap, subst, ◌∙◌, sym, arith}, proofs.lemmas.List.drop_all}
use Rattle.key_index.{specs.Leaves.all_of, proofs.Belonging.{filled_at, first_behind, read_leaf}}
use Rattle.key_index.proofs.leaves.first_from.Goals as goal

pub entry-requires-then-at-len : goal.entry-requires-then-at-len
entry-requires-then-at-len g c =
    let ls = c.args.leaves.now.items in let i = c.args.at + 1 in
    let inside : i < length ls = omega (arith, c.if-at-len.true, c.len-2.ensures) in
    subst (λ leaf. 0 < length leaf) (sym (read_leaf ls i c.index-then-at-len.result.now inside c.index-then-at-len.ensures)) (filled_at ls i c.requires.1 inside)

pub returns-then-at-len : goal.returns-then-at-len
returns-then-at-len g c =
    let ls = c.args.leaves.now.items in let at = c.args.at in let place = c.args.place in let leaf = get_or ls at [] in
    let inside : at + 1 < length ls = omega (arith, c.if-at-len.true, c.len-2.ensures) in
    let up : at + 1 ≡ suc at = omega arith in
    let here = read_leaf ls at c.index.result.now c.requires.0 c.index.ensures in
    let past : length leaf ≤ place = subst (λ l. length l ≤ place) here (omega (arith, c.if-place-len.false, c.len.ensures.len)) in
    let e = c.entry-then-at-len.result in
    let found : slice_get (get_or ls (at + 1) []) 0 ≡ Some e =
    ap (λ l. slice_get l 0) (sym (read_leaf ls (at + 1) c.index-then-at-len.result.now inside c.index-then-at-len.ensures)) ∙ c.entry-then-at-len.ensures in
    sym (first_behind ls (at + 1) e [] inside found) ∙ ap (λ n. slice_get (all_of (drop n ls)) 0) up ∙ ap (λ l. slice_get (l ++ all_of (drop (suc at) ls)) 0) (sym (drop_all place leaf past))
