use Rattle.std.{proofs.Common.{◌≡◌, ◌<◌, Some, length, slice_get, ap, arith, subst, sym, ◌∙◌}, proofs.lemmas.Bool.Decides.nat_tests}
use Rattle.kept_desk.{specs.Entries.bytes_of, specs.Speaking.SpeaksOf}
use Rattle.ledger_model.specs.declared.command.Command.TheVariants.{Deliver}
use Rattle.site_desk.specs.declared.roster.StationPlace.{StationPlace}
use Rattle.journal_server.proofs.serving.ServingDelivers.deliver.Goals as goal

pub submit-answer-requires-clause-speaks : goal.submit-answer-requires-clause-speaks
submit-answer-requires-clause-speaks g c = λ at there.
    let named = c.in-Some.ensures.named in
    let lookup : Some at ≡ Some named.place = sym there ∙ (λ i. slice_get (sym c.desk.ensures i).stations (sym c.station.ensures i)) ∙ named.there in
    let at_is : at ≡ named.place = cc lookup in
    let same : at.name ≡ c.in-Some.name.now = ap (λ (p : StationPlace). p.name) at_is ∙ named.same in
    let empty = c.is_empty.ensures in
    let not_empty = c.if-is_empty.false in
    let some_text : 0 < length c.text.result.now = grind (arith, nat_tests, empty, not_empty) in
    let some : 0 < length c.in-Some.name.now = omega (arith, some_text, ap length c.text.ensures.value) in
    subst (λ n. SpeaksOf n (bytes_of c.in-Some-spoken.line) (Deliver c.args.ordered.key c.args.ordered.event)) (sym same)
    (record { some = some; speaks = c.in-Some-spoken.ensures.speaks (Deliver c.args.ordered.key c.args.ordered.event) c.in_ok-made.ensures.speaks })

pub returns-clause-given : goal.returns-clause-given
returns-clause-given g c at there = (_, _, _, c.submit-answer.ensures.received at there)

pub returns-clause-submitted : goal.returns-clause-submitted
returns-clause-submitted g c = record {
  settled = λ at there. (c.submit-answer.result.1, c.submit-answer.ensures.settled at there);
  stranger = λ none. let unknown = c.submit-answer.ensures.stranger none in (unknown.0, unknown.1.pass);
}
