use Rattle.std.proofs.Common.{[], ◌∷◌, length, subst, sym, ap, arith, length-append}
use Rattle.key_index.{specs.Leaves.AreEmpty, proofs.Edits.empty_more}
use Rattle.key_index.proofs.index.KeyIndex.open.Goals as goal

pub loop-preserved : goal.loop-preserved
loop-preserved g c =
    let leaf = c.in_ok-open.field-0 in let was = c.loop.invariant in
    record {
      empty = subst AreEmpty (sym c.push_reserved.ensures.items) (empty_more c.loop.spare.items leaf was.empty c.in_ok-open.ensures);
      count = omega (arith, ap length c.push_reserved.ensures.items, length-append c.loop.spare.items (leaf ∷ []), was.count);
      room = omega (arith, was.room, c.push_reserved.ensures.capacity);
    }
