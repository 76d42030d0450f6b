use Rattle.std.{proofs.Common.{◌-◌, ◌<◌, length, ap, ◌∙◌, arith}, proofs.lemmas.List.take_all}
use Rattle.key_index.{specs.Entries.last_of, specs.Marks.marked, proofs.Nearest.{leaf_passed, leaf_found}}
use Rattle.key_index.proofs.leaves.last_in_front.Goals as goal

pub returns-then-count-gt0 : goal.returns-then-count-gt0
returns-then-count-gt0 g c =
    let ls = c.args.leaves.now.items in let leaf = c.index-leaf.result.now in let m = c.args.mark in let i = c.loop-front.front - 1 in
    let within : i < length ls = omega (arith, c.loop-front-test.true, c.loop-front.invariant.within) in
    c.last_marked.ensures ∙ ap (λ l. last_of (marked m l)) (take_all c.len.result leaf (omega (arith, c.len.ensures.len)))
    ∙ leaf_found m ls i c.loop-front.front leaf within (omega (arith, c.loop-front-test.true)) c.index-leaf.ensures (omega (arith, c.if-count-gt0.true, c.count.ensures))
    ∙ ap last_of c.loop-front.invariant.same

pub loop-front-preserved : goal.loop-front-preserved
loop-front-preserved g c =
    let ls = c.args.leaves.now.items in let leaf = c.index-leaf.result.now in let m = c.args.mark in let i = c.loop-front.front - 1 in
    let within : i < length ls = omega (arith, c.loop-front-test.true, c.loop-front.invariant.within) in
    record {
      within = omega (arith, within);
      same = leaf_passed m ls i c.loop-front.front leaf within (omega (arith, c.loop-front-test.true)) c.index-leaf.ensures (omega (arith, c.if-count-gt0.false, c.count.ensures))
          ∙ c.loop-front.invariant.same;
    }
