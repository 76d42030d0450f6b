use Rattle.std.proofs.Common.{◌+◌, ◌<◌, length, sym, ◌∙◌, arith}
use Rattle.slot_arena.proofs.Fresh.{cleared_turn, cleared_holds}
use Rattle.slot_arena.proofs.slot.clear_all.Goals as goal

pub pull-slot-requires : goal.pull-slot-requires
pull-slot-requires g c =
    let i = c.loop-index.index in let full = c.args.places.now.row in let was = c.loop-index.invariant in
    let within : i < length full = omega (arith, c.requires.2, c.loop-index-test.true) in
    (sym was.at, cleared_holds i full c.loop-index.places.row c.requires.1 within was.row)

pub loop-index-preserved : goal.loop-index-preserved
loop-index-preserved g c =
    let i = c.loop-index.index in let full = c.args.places.now.row in let was = c.loop-index.invariant in
    let within : i < length full = omega (arith, c.requires.2, c.loop-index-test.true) in
    record {
      at = c.pull-slot.ensures.row.0 ∙ was.at;
      within = omega (arith, c.loop-index-test.true);
      row = cleared_turn i (i + 1) full c.loop-index.places.row c.pull-slot.new.self.row (omega arith) within was.row c.pull-slot.ensures.row.1;
    }

pub loop-index-preserved-in-loop-index : goal.loop-index-preserved-in-loop-index
loop-index-preserved-in-loop-index g c =
    let i = c.loop-index.index in let full = c.args.places.now.row in let was = c.loop-index.invariant in
    let within : i < length full = omega (arith, c.requires.2, c.loop-index-test.true) in
    record {
      at = c.pull-slot.ensures.row.0 ∙ was.at;
      within = omega (arith, c.loop-index-test.true);
      row = cleared_turn i (i + 1) full c.loop-index.places.row c.pull-slot.new.self.row (omega arith) within was.row c.pull-slot.ensures.row.1;
    }
