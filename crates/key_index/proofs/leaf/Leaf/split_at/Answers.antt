use Rattle.std.proofs.Common.{length, ap, arith, length-take}
use Rattle.key_index.{specs.Marks.marked, proofs.Counting.{count_cut, count_rest}}
use Rattle.key_index.proofs.leaf.Leaf.split_at.Goals as goal

pub minus-self-inside-requires : goal.minus-self-inside-requires
minus-self-inside-requires g c m =
    let es = c.self.inside.entries.items in let i = c.args.place in
    omega (arith, c.counts_over-moved.ensures m, count_rest m i es c.deref.result.now c.deref.ensures.value, count_cut m i es, c.self.invariant.2 m)

pub invariant_of-self : goal.invariant_of-self
invariant_of-self g c =
    let es = c.self.inside.entries.items in let i = c.args.place in (
      omega (arith, c.self.invariant.0, c.move_from.ensures.capacity),
      omega (arith, c.self.invariant.1, ap length c.move_from.ensures.kept, length-take i es),
      λ m. omega (
        arith,
        c.minus-self-inside.ensures m,
        c.counts_over-moved.ensures m,
        count_rest m i es c.deref.result.now c.deref.ensures.value,
        count_cut m i es,
        c.self.invariant.2 m,
        ap (λ l. length (marked m l)) c.move_from.ensures.kept,
      ),
    )
