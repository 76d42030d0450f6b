use Rattle.std.{proofs.Common.{◌≡◌, ◌+◌, eqb, false, get_or, take, arith}, proofs.lemmas.Bool.Decides.nat_tests}
use Rattle.marked_json.{specs.Marking.begins_number, proofs.Marks.completed-plain}
use Rattle.marked_json.proofs.marking.mark_next.Goals as goal

pub returns-else-begins_number-clause-step : goal.returns-else-begins_number-clause-step
returns-else-begins_number-clause-step c =
    let no_quote : eqb (get_or c.args.text.now c.args.at 0) 34 ≡ false = grind (arith, nat_tests) in
    let no_number : begins_number (get_or c.args.text.now c.args.at 0) ≡ false = cc in
    let few = c.requires.few in
    record {
      same = completed-plain (take c.args.len c.args.out.now) (take (c.args.len + 1) c.put_byte.new.out) c.args.text.now c.args.at c.requires.some no_quote no_number c.put_byte.ensures.put;
      forward = omega arith;
      within = omega (arith, c.requires.some);
      few = (omega (arith, few.0), λ more _. omega (arith, few.0));
    }
