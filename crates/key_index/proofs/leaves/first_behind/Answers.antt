use Rattle.std.proofs.Common.{◌<◌, length, ap, ◌∙◌, arith}
use Rattle.key_index.{specs.Entries.first_of, proofs.Nearest.back_found}
use Rattle.key_index.proofs.leaves.first_behind.Goals as goal

pub returns-then-count-gt0 : goal.returns-then-count-gt0
returns-then-count-gt0 g c =
    let ls = c.args.leaves.now.items in let leaf = c.index-leaf.result.now in let m = c.args.mark in
    let within : c.loop-back.back < length ls = omega (arith, c.loop-back-test.true, c.len.ensures) in
    c.first_marked.ensures ∙ back_found m ls c.loop-back.back leaf within c.index-leaf.ensures (omega (arith, c.if-count-gt0.true, c.count.ensures)) ∙ ap first_of c.loop-back.invariant
