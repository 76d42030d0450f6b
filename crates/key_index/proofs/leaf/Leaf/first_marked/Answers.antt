use Rattle.std.proofs.Common.{◌≡◌, length, drop, ap, sym, ◌∙◌, arith}
use Rattle.key_index.{specs.Entries.first_of, specs.Marks.marked, proofs.Nearest.none_back}
use Rattle.key_index.proofs.leaf.Leaf.first_marked.Goals as goal

pub returns-then-of-eq0 : goal.returns-then-of-eq0
returns-then-of-eq0 g c =
    let es = c.self.inside.entries.items in let m = c.args.mark in let i = c.args.place in
    let none : length (marked m es) ≡ 0 = omega (arith, c.self.invariant.2 m, c.of.ensures, c.if-of-eq0.true) in
    sym (ap first_of (none_back m es i none)) ∙ ap (λ l. first_of (marked m (drop i l))) c.self.view_is
