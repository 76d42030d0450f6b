use Rattle.std.{proofs.Common.{◌≡◌, Err, Ok, refl, rules, subst, sym, true}, specs.Prelude.is_some}
use Rattle.station_link.{specs.Answer.{Answers, reply_of}, specs.Attended.{Takes, point}, proofs.Attended.{flushes, is_reply}}
use Rattle.station_link.proofs.session.answer_message.Goals as goal

pub returns-in-Ok-clause-taken : goal.returns-in-Ok-clause-taken
returns-in-Ok-clause-taken g c =
    let gives = g.D.Delivers.gives in
    let places = g.D.Delivers.stations c.args.desk.now in
    let a = c.put_answer-has_reply in
    let r = a.result in
    let reply = reply_of r.has_reply a.new.reply.bytes in
    let words : c.as_str-text.result.now ≡ c.in-Text.text = search rules in
    subst (λ m. Takes gives g.C.MomentSource.reads g.S.Read.remaining g.S.Write.contents places m (Ok true) (point c.args.pass.now c.args.clock.now c.args.socket.now c.args.kept.now.seen.items) (point a.new.pass c.present-now.new.clock c.send_answer.new.socket c.keep.new.seen.items)) (sym c.in-Text.is) (
      refl,
      (
        record {
          moment = c.present-now.result;
          reply = reply;
          seen = r.seen;
          memory = r.memory;
          present = c.present-now.ensures;
          answered = subst (λ w. Answers gives places c.args.pass.now w c.present-now.result reply a.new.pass r.seen r.memory) words a.ensures.answers;
          next = a.ensures.next;
          all = c.keep.ensures.items;
        },
        c.in-Ok.ensures.sent,
      ),
    )

pub returns-in-Text-clause-taken : goal.returns-in-Text-clause-taken
returns-in-Text-clause-taken g c =
    let gives = g.D.Delivers.gives in
    let places = g.D.Delivers.stations c.args.desk.now in
    let a = c.put_answer-has_reply in
    let r = a.result in
    let reply = reply_of r.has_reply a.new.reply.bytes in
    let words : c.as_str-text.result.now ≡ c.in-Text.text = search rules in
    subst (λ m. Takes gives g.C.MomentSource.reads g.S.Read.remaining g.S.Write.contents places m (Err c.in-Err.end) (point c.args.pass.now c.args.clock.now c.args.socket.now c.args.kept.now.seen.items)
    (point a.new.pass c.present-now.new.clock c.send_answer.new.socket c.keep.new.seen.items)) (sym c.in-Text.is) (
      record {
        moment = c.present-now.result;
        reply = reply;
        seen = r.seen;
        memory = r.memory;
        present = c.present-now.ensures;
        answered = subst (λ w. Answers gives places c.args.pass.now w c.present-now.result reply a.new.pass r.seen r.memory) words a.ensures.answers;
        next = a.ensures.next;
        all = c.keep.ensures.items;
      },
      is_reply r.has_reply a.new.reply.bytes c.in-Err.ensures.fault.0,
      c.in-Err.ensures.fault.1,
    )

pub returns-clause-taken : goal.returns-clause-taken
returns-clause-taken g c =
    subst (λ m. Takes g.D.Delivers.gives g.C.MomentSource.reads g.S.Read.remaining g.S.Write.contents (g.D.Delivers.stations c.args.desk.now) m (Err c.untold.result)
    (point c.args.pass.now c.args.clock.now c.args.socket.now c.args.kept.now.seen.items) (point c.args.pass.now c.args.clock.now c.flush.new.self c.args.kept.now.seen.items)) (sym c.in-Close.is)
    (record { waited = flushes g.S.Read.remaining g.S.Write.contents _ _ c.flush.ensures.sent; pass = refl; clock = refl; seen = refl })
