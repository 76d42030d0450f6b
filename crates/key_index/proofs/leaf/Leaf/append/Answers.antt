use Rattle.std.proofs.Common.{length, ap, arith}
use Rattle.key_index.proofs.Counting.{count_within}
use Rattle.key_index.proofs.leaf.Leaf.append.Goals as goal

pub plus-self-inside-requires : goal.plus-self-inside-requires
plus-self-inside-requires g c m =
    omega (
      arith,
      count_within m c.self.inside.entries.items,
      count_within m c.other.inside.entries.items,
      c.self.invariant.2 m,
      c.other.invariant.2 m,
      c.requires,
      ap length c.self.view_is,
      ap length c.other.view_is,
    )
