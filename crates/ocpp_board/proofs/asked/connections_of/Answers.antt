use Rattle.std.{proofs.Common.{rules, arith, ◌∙◌}, proofs.lemmas.Bool.Decides.nat_tests}
use Rattle.ocpp_board.proofs.asked.connections_of.Goals as goal

pub returns-clause-asked : goal.returns-clause-asked
returns-clause-asked c = record {
  live = search rules;
  count = record { given = c.unwrap_or-connections.result; gives = search rules; within = λ least most. c.clamp.ensures ∙ grind (arith, nat_tests, least, most) };
}
