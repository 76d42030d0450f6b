use Rattle.std.proofs.Common.{[], take, get_or, sym, ap, ◌∙◌}
use Rattle.key_index.{specs.Entries.last_of, specs.Leaves.all_of, specs.Marks.marked, proofs.Belonging.read_leaf, proofs.Counting.marked_both, proofs.Nearest.{last_near, last_far}}
use Rattle.key_index.proofs.leaves.last_marked.Goals as goal

pub returns-in-Some : goal.returns-in-Some
returns-in-Some g c =
    let ls = c.args.leaves.now.items in let m = c.args.mark in let at = c.args.place.leaf in let i = c.args.place.entry in let front = all_of (take at ls) in let leaf = get_or ls at [] in
    let here = read_leaf ls at c.index.result.now c.requires.0 c.index.ensures in
    let found = sym (ap (λ l. last_of (marked m (take i l))) here) ∙ sym c.last_marked.ensures ∙ c.in-Some.is in
    sym (ap last_of (marked_both m front (take i leaf)) ∙ last_near (marked m front) (marked m (take i leaf)) c.in-Some.entry found)

pub returns-in-None : goal.returns-in-None
returns-in-None g c =
    let ls = c.args.leaves.now.items in let m = c.args.mark in let at = c.args.place.leaf in let i = c.args.place.entry in let front = all_of (take at ls) in let leaf = get_or ls at [] in
    let here = read_leaf ls at c.index.result.now c.requires.0 c.index.ensures in
    let none = sym (ap (λ l. last_of (marked m (take i l))) here) ∙ sym c.last_marked.ensures ∙ c.in-None.is in
    c.last_in_front.ensures ∙ sym (ap last_of (marked_both m front (take i leaf)) ∙ last_far (marked m front) (marked m (take i leaf)) none)
