use Rattle.std.{proofs.Common.{◌≤◌, Some, arith, sym, ap, ◌∙◌}, proofs.lemmas.Bool.Decides.nat_tests}
use Rattle.key_index.proofs.Orders.{first_filed}
use Rattle.key_index.proofs.index.KeyIndex.get.Goals as goal

pub returns-in-Some : goal.returns-in-Some
returns-in-Some g c =
    let key = g.K.Ranked.rank c.args.key in let e = c.in-Some.entry in
    let level : e.0 ≤ key = grind (arith, nat_tests, c.if-not-is_after.true, c.is_after.ensures) in
    ap Some c.filed.ensures ∙ sym (first_filed key c.args.self.now.entries e (sym c.at_or_after.ensures ∙ c.in-Some.is) level)
