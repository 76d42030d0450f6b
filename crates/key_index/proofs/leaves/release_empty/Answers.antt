use Rattle.std.{proofs.Common.{◌<◌, ◌≤◌, [], length, get_or, subst, sym, ap, ◌∙◌, arith}, proofs.lemmas.List.nil_from_length}
use Rattle.key_index.{specs.Leaves.{all_of, AreFilled, AreEmpty}, proofs.Belonging.read_leaf, proofs.Edits.{filled_whole, left_out_filled, left_out_same, empty_more}}
use Rattle.key_index.proofs.leaves.release_empty.Goals as goal

pub returns-then-len-gt0-clause-filled : goal.returns-then-len-gt0-clause-filled
returns-then-len-gt0-clause-filled g c =
    let ls = c.args.leaves.now.items in let at = c.args.at in
    let here = read_leaf ls at c.index.result.now c.requires.within c.index.ensures in
    let some : 0 < length (get_or ls at []) = subst (λ l. 0 < length l) here (omega (arith, c.len.ensures.len, c.if-len-gt0.true)) in
    filled_whole ls at c.requires.within c.requires.filled.0 c.requires.filled.1 some

pub returns-clause-filled : goal.returns-clause-filled
returns-clause-filled g c = subst AreFilled (sym c.remove-leaf.ensures.items) (left_out_filled c.args.leaves.now.items c.args.at c.requires.filled.0 c.requires.filled.1)

pub returns-clause-empty : goal.returns-clause-empty
returns-clause-empty g c =
    let ls = c.args.leaves.now.items in let at = c.args.at in
    let here = read_leaf ls at c.index.result.now c.requires.within c.index.ensures in
    let none : length (get_or ls at []) ≤ 0 = subst (λ l. length l ≤ 0) here (omega (arith, c.len.ensures.len, c.if-len-gt0.false)) in
    let leaf = read_leaf ls at c.remove-leaf.result c.requires.within c.remove-leaf.ensures.value in
    subst AreEmpty (sym c.push_reserved.ensures.items) (empty_more c.args.spare.now.items c.remove-leaf.result c.requires.empty (leaf ∙ nil_from_length (get_or ls at []) (omega (arith, none))))

pub returns-clause-same : goal.returns-clause-same
returns-clause-same g c =
    let ls = c.args.leaves.now.items in let at = c.args.at in
    let here = read_leaf ls at c.index.result.now c.requires.within c.index.ensures in
    let none : length (get_or ls at []) ≤ 0 = subst (λ l. length l ≤ 0) here (omega (arith, c.len.ensures.len, c.if-len-gt0.false)) in
    ap all_of c.remove-leaf.ensures.items ∙ left_out_same ls at c.requires.within none
