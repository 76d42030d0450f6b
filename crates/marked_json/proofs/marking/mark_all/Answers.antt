use Rattle.std.{proofs.Common.{◌∙◌, ◌≤◌, sym, take, length, arith}, proofs.lemmas.Bool.Decides.nat_tests}
use Rattle.marked_json.proofs.Marks.{completed-end}
use Rattle.marked_json.proofs.marking.mark_all.Goals as goal

pub returns-clause-ok : goal.returns-clause-ok
returns-clause-ok c =
    let all : length c.args.text.now ≤ c.loop-at.at = grind (arith, nat_tests) in
    sym c.loop-at.invariant.3 ∙ completed-end (take c.loop-at.len c.loop-at.out) c.args.text.now c.loop-at.at all
