use Rattle.std.{proofs.Common.{◌<◌, length, ap, arith}, proofs.lemmas.List.Edits.length-remove}
use Rattle.key_index.{specs.Marks.{has_mark, marked, weigh}, proofs.Counting.{count_out, count_has}}
use Rattle.key_index.proofs.leaf.Leaf.remove.Goals as goal

pub less-self-inside-requires : goal.less-self-inside-requires
less-self-inside-requires g c m =
    let es = c.self.inside.entries.items in let within : c.args.place < length es = omega (arith, c.requires, ap length c.self.view_is) in
    omega (arith, count_has m es c.args.place c.remove-entry.result within c.remove-entry.ensures.value, c.self.invariant.2 m, ap (λ f. weigh (has_mark m f.marks)) c.filed.ensures)

pub invariant_of-self : goal.invariant_of-self
invariant_of-self g c =
    let es = c.self.inside.entries.items in let within : c.args.place < length es = omega (arith, c.requires, ap length c.self.view_is) in (
      omega (arith, c.self.invariant.0, c.remove-entry.ensures.capacity),
      omega (arith, c.self.invariant.1, ap length c.remove-entry.ensures.items, length-remove es c.args.place within),
      λ m. omega (
        arith,
        c.less-self-inside.ensures m,
        c.self.invariant.2 m,
        count_out m es c.args.place c.remove-entry.result within c.remove-entry.ensures.value,
        ap (λ l. length (marked m l)) c.remove-entry.ensures.items,
        ap (λ f. weigh (has_mark m f.marks)) c.filed.ensures,
      ),
    )
