use Rattle.std.proofs.Common.{[], ◌∷◌, length, subst, sym, ap, ◌∙◌, length-append}
use Rattle.key_index.{specs.Leaves.AreEmpty, proofs.Edits.empty_parts}
use Rattle.key_index.proofs.leaves.taken.Goals as goal

pub returns-clause-empty : goal.returns-clause-empty
returns-clause-empty g c = (empty_parts c.pop.new.self.items (c.in-Some.leaf ∷ []) (subst AreEmpty c.in-Some.ensures.items c.requires.0)).1.0

pub returns-clause-others : goal.returns-clause-others
returns-clause-others g c =
    let rest = c.pop.new.self.items in let leaf = c.in-Some.leaf in
    ((empty_parts rest (leaf ∷ []) (subst AreEmpty c.in-Some.ensures.items c.requires.0)).0, sym (ap length c.in-Some.ensures.items ∙ length-append rest (leaf ∷ [])))
