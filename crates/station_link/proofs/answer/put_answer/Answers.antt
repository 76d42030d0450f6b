use Rattle.std.proofs.Common.{Some, refl, rules, subst, sym}
use Rattle.station_link.specs.Answer.{OutcomeOfMeaning}
use Rattle.station_link.proofs.answer.put_answer.Goals as goal

-- the answer is the one that the desk gave to the event
pub returns-in-Ok-clause-outcome : goal.returns-in-Ok-clause-outcome
returns-in-Ok-clause-outcome g c =
    let event = c.in-Event in let answer = c.in-Ok.answer in let reply = c.put_event_reply.new.reply.bytes in
    subst (λ m. OutcomeOfMeaning g.D.Delivers.gives (g.D.Delivers.stations c.args.desk.now) c.args.pass.now m (Some answer) (Some reply) c.deliver.new.pass c.in-Ok.seen)
    (sym event.ensures.meaning) (
      record {
        answer = answer;
        submitted = c.in-Ok.ensures.submitted;
        given = c.in-Ok.ensures.given;
        reply = search rules;
      },
      refl,
    )
