use Rattle.std.{proofs.Common.{◌≡◌, ◌+◌, ◌≤◌, length, set, ap, ◌∙◌, arith}, specs.List.{copy_within, insert}, proofs.lemmas.List.Edits.length-insert}
use Rattle.key_index.{specs.Marks.{has_mark, marked, weigh}, proofs.Counting.{count_within, count_put}, proofs.Edits.put_between}
use Rattle.key_index.proofs.leaf.Leaf.insert.Goals as goal

pub more-self-inside-requires : goal.more-self-inside-requires
more-self-inside-requires g c m = omega (arith, count_within m c.self.inside.entries.items, c.self.invariant.2 m, c.self.invariant.1)

pub invariant_of-self : goal.invariant_of-self
invariant_of-self g c =
    let es = c.self.inside.entries.items in let i = c.args.place in let e = c.args.entry in let n = c.len-len.result in
    let within : i ≤ length es = omega (arith, c.requires.0, ap length c.self.view_is) in
    let whole : set c.copy_within.new.self.items i e ≡ insert es i e =
    ap (λ l. set l i e) (c.copy_within.ensures.items ∙ ap (λ l. copy_within l i n (i + 1)) c.push_reserved.ensures.items)
    ∙ put_between es i n (i + 1) e within (omega (arith, c.len-len.ensures)) (omega arith) in (
      omega (arith, c.self.invariant.0, c.push_reserved.ensures.capacity, c.copy_within.ensures.capacity),
      omega (arith, ap length whole, length-insert es i e within, c.requires.1, ap length c.self.view_is),
      λ m. omega (arith, c.more-self-inside.ensures m, c.self.invariant.2 m, count_put m es i e, ap (λ l. length (marked m l)) whole, ap (λ f. weigh (has_mark m f.marks)) c.filed.ensures),
    )

pub returns : goal.returns
returns g c =
    let es = c.self.inside.entries.items in let i = c.args.place in let e = c.args.entry in let n = c.len-len.result in
    let within : i ≤ length es = omega (arith, c.requires.0, ap length c.self.view_is) in
    ap (λ l. set l i e) (c.copy_within.ensures.items ∙ ap (λ l. copy_within l i n (i + 1)) c.push_reserved.ensures.items)
    ∙ put_between es i n (i + 1) e within (omega (arith, c.len-len.ensures)) (omega arith)
    ∙ ap (λ l. insert l i e) c.self.view_is
