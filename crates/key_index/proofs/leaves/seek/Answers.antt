use Rattle.std.proofs.Common.{length, subst, sym, ap, ◌∙◌, ◌≤◌}
use Rattle.key_index.{specs.Entries.{below, AreRising}, proofs.Belonging.{read_leaf, rising_leaf}, proofs.Placing.place_found}
use Rattle.key_index.proofs.leaves.seek.Goals as goal

pub place_of-entry-requires : goal.place_of-entry-requires
place_of-entry-requires g c =
    let ls = c.args.leaves.now.items in let at = c.leaf_of-at.result in let within = c.leaf_of-at.ensures.within in
    subst AreRising (sym (read_leaf ls at c.index.result.now within c.index.ensures)) (rising_leaf ls at within c.requires.2)

pub returns : goal.returns
returns g c =
    let ls = c.args.leaves.now.items in let at = c.leaf_of-at.result in let b = c.leaf_of-at.ensures in let key = g.K.Ranked.rank c.args.key in let n = c.place_of-entry.result in
    let here = read_leaf ls at c.index.result.now b.within c.index.ensures in
    place_found key ls (record { leaf = at; entry = n }) b (c.place_of-entry.ensures.place ∙ ap (λ l. length (below key l)) here) (subst (λ l. n ≤ length l) here c.place_of-entry.ensures.within)
