use Rattle.std.proofs.Common.{◌-◌, ◌∙◌, arith}
use Rattle.slot_arena.proofs.Fresh.{linked_turn}
use Rattle.slot_arena.proofs.slot.link_all.Goals as goal

pub loop-index-preserved : goal.loop-index-preserved
loop-index-preserved g c =
    let i = c.loop-index.index in let was = c.loop-index.invariant in
    record {
      at = c.put.ensures.0 ∙ was.at;
      within = omega (arith, was.within);
      row = linked_turn i (i - 1) c.args.count c.loop-index.places.row c.put.new.self.row (omega (arith, c.loop-index-test.true)) was.within was.row c.put.ensures.1;
    }
