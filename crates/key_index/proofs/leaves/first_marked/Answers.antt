use Rattle.std.proofs.Common.{◌≡◌, ◌+◌, suc, [], drop, get_or, sym, ap, ◌∙◌, arith}
use Rattle.key_index.{specs.Entries.first_of, specs.Leaves.all_of, specs.Marks.marked, proofs.Belonging.read_leaf, proofs.Counting.marked_both, proofs.Nearest.{first_near, first_far}}
use Rattle.key_index.proofs.leaves.first_marked.Goals as goal

pub returns-in-Some : goal.returns-in-Some
returns-in-Some g c =
    let ls = c.args.leaves.now.items in let m = c.args.mark in let at = c.args.place.leaf in let i = c.args.place.entry in let back = all_of (drop (suc at) ls) in let leaf = get_or ls at [] in
    let here = read_leaf ls at c.index.result.now c.requires c.index.ensures in
    let found = sym (ap (λ l. first_of (marked m (drop i l))) here) ∙ sym c.first_marked.ensures ∙ c.in-Some.is in
    sym (ap first_of (marked_both m (drop i leaf) back) ∙ first_near (marked m (drop i leaf)) (marked m back) c.in-Some.entry found)

pub returns-in-None : goal.returns-in-None
returns-in-None g c =
    let ls = c.args.leaves.now.items in let m = c.args.mark in let at = c.args.place.leaf in let i = c.args.place.entry in let back = all_of (drop (suc at) ls) in let leaf = get_or ls at [] in
    let here = read_leaf ls at c.index.result.now c.requires c.index.ensures in let up : at + 1 ≡ suc at = omega arith in
    let none = sym (ap (λ l. first_of (marked m (drop i l))) here) ∙ sym c.first_marked.ensures ∙ c.in-None.is in
    c.first_behind.ensures ∙ ap (λ n. first_of (marked m (all_of (drop n ls)))) up ∙ sym (ap first_of (marked_both m (drop i leaf) back) ∙ first_far (marked m (drop i leaf)) (marked m back) none)
