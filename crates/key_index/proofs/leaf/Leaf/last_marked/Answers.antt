use Rattle.std.proofs.Common.{◌≡◌, ◌<◌, ◌-◌, length, take, ap, sym, ◌∙◌, arith}
use Rattle.key_index.{specs.Entries.last_of, specs.Marks.{has_mark, marked}, proofs.Nearest.{last_found, none_front}}
use Rattle.key_index.proofs.leaf.Leaf.last_marked.Goals as goal

pub returns-then-of-eq0 : goal.returns-then-of-eq0
returns-then-of-eq0 g c =
    let es = c.self.inside.entries.items in let m = c.args.mark in let i = c.args.place in
    let none : length (marked m es) ≡ 0 = omega (arith, c.self.invariant.2 m, c.of.ensures, c.if-of-eq0.true) in
    sym (ap last_of (none_front m es i none)) ∙ ap (λ l. last_of (marked m (take i l))) c.self.view_is

pub returns-then-has : goal.returns-then-has
returns-then-has g c =
    let es = c.self.inside.entries.items in let m = c.args.mark in let i = c.loop-at.at - 1 in let e = c.index-entry.result.now in
    let within : i < length es = omega (arith, c.loop-at.invariant.within, c.loop-at-test.true) in
    sym (last_found m es i c.loop-at.at e within c.index-entry.ensures (omega (arith, c.loop-at-test.true)) (ap (λ f. has_mark m f.marks) (sym c.filed.ensures) ∙ sym c.has.ensures ∙ c.if-has.true))
    ∙ ap last_of c.loop-at.invariant.same ∙ ap (λ l. last_of (marked m (take c.args.place l))) c.self.view_is
