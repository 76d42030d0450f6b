use Rattle.std.proofs.Common.{◌≡◌, ◌<◌, length, set, ap, ◌∙◌, arith, length-set}
use Rattle.key_index.{specs.Marks.{has_mark, marked, mark_at, weigh}, proofs.Counting.{count_within, count_has, count_set, set_mark}}
use Rattle.key_index.proofs.leaf.Leaf.set_marks.Goals as goal

pub less-requires : goal.less-requires
less-requires g c m =
    let es = c.self.inside.entries.items in let within : c.args.place < length es = omega (arith, c.requires, ap length c.self.view_is) in
    omega (arith, count_has m es c.args.place c.index-entry.result.now within c.index-entry.ensures, c.self.invariant.2 m, ap (λ f. weigh (has_mark m f.marks)) c.filed-filed.ensures)

pub more-self-inside-requires : goal.more-self-inside-requires
more-self-inside-requires g c m = omega (arith, c.less.ensures m, count_within m c.self.inside.entries.items, c.self.invariant.2 m, c.self.invariant.1)

pub invariant_of-self : goal.invariant_of-self
invariant_of-self g c =
    let es = c.self.inside.entries.items in let i = c.args.place in let marks = c.args.marks in let e = c.index-entry.result.now in
    let within : i < length es = omega (arith, c.requires, ap length c.self.view_is) in
    let new : set es i c.marked_as.result ≡ mark_at marks i es = ap (set es i) c.marked_as.ensures ∙ set_mark marks es i e within c.index-entry.ensures in (
      c.self.invariant.0,
      omega (arith, c.self.invariant.1, length-set es i c.marked_as.result),
      λ m. omega (
        arith,
        c.more-self-inside.ensures m,
        c.less.ensures m,
        c.self.invariant.2 m,
        count_set m marks es i e within c.index-entry.ensures,
        ap (λ l. length (marked m l)) new,
        ap (λ f. weigh (has_mark m f.marks)) c.filed-filed.ensures,
      ),
    )

pub returns : goal.returns
returns g c =
    let es = c.self.inside.entries.items in let i = c.args.place in let within : i < length es = omega (arith, c.requires, ap length c.self.view_is) in
    ap (set es i) c.marked_as.ensures ∙ set_mark c.args.marks es i c.index-entry.result.now within c.index-entry.ensures ∙ ap (mark_at c.args.marks i) c.self.view_is
