use Rattle.std.proofs.Common.{rules, ◌≡◌, ◌≤◌, ◌+◌, [], ap, cond, refl, sym, subst, arith, ◌∙◌}
use Rattle.station_link.{specs.Attended.{IsAttended, point}, proofs.Attended.{SoFar, ends_waiting, ends_with, message_more, none_yet, rests}, proofs.session.answer_all.Goals.{then-is_text, else-is_text}}
use Rattle.station_link.proofs.session.answer_all.Goals as goal

pub loop-turn-init : goal.loop-turn-init
loop-turn-init g c = record {
  station = refl;
  changes = omega arith;
  texts = omega arith;
  room = c.in-Some.ensures.room;
  used = let len = c.in-Some.ensures.len in omega (arith, len);
  attended = subst
      (λ l. SoFar g.D.Delivers.gives g.C.MomentSource.reads g.S.Read.remaining g.S.Write.contents (g.D.Delivers.stations c.args.desk.now)
      (point c.args.pass.now c.args.clock.now c.args.socket.now []) (point c.args.pass.now c.args.clock.now c.args.socket.now l) 0)
      (sym c.in-Some.ensures.none) (none_yet g.D.Delivers.gives g.C.MomentSource.reads g.S.Read.remaining g.S.Write.contents (g.D.Delivers.stations c.args.desk.now) _ 0 refl);
}

pub loop-turn-preserved : goal.loop-turn-preserved
loop-turn-preserved g c =
    let m = c.answer_message-taken.new in
    let n = c.loop-turn.texts in
    let count : c.if-is_text.texts ≡ cond c.in-Ok-taken.is_text (n + 1) n = elim c.if-is_text.branch [
      | then-is_text w ↦ w.texts-is ∙ ap (λ b. cond b (n + 1) n) (sym w.if-is_text.true)
      | else-is_text w ↦ w.texts-is ∙ ap (λ b. cond b (n + 1) n) (sym w.if-is_text.false)
    ] in
    let texts : c.if-is_text.texts ≤ c.loop-turn.turn + 1 = elim c.if-is_text.branch [ then-is_text w ↦ search rules | else-is_text w ↦ search rules ] in
    let one = c.answer_message-taken.ensures.one in
    let changes = c.loop-turn.invariant.changes in
    let length = c.answer_message-taken.ensures.length in
    let used = c.loop-turn.invariant.used in
    record {
      station = c.answer_message-taken.ensures.station ∙ c.loop-turn.invariant.station;
      changes = omega (arith, one, changes);
      texts = texts;
      room = c.answer_message-taken.ensures.room ∙ c.loop-turn.invariant.room;
      used = omega (arith, length, used);
      attended = message_more g.D.Delivers.gives g.C.MomentSource.reads g.S.Read.remaining g.S.Write.contents (g.D.Delivers.stations c.args.desk.now)
          (point c.args.pass.now c.args.clock.now c.args.socket.now []) (point c.loop-turn.pass c.loop-turn.clock c.loop-turn.socket c.loop-turn.kept.seen.items)
          (point m.pass m.clock m.socket m.kept.seen.items) _ _ _ _ c.in-Ok-taken.is_text c.loop-turn.invariant.attended c.in-Ok.ensures.comes c.in-Ok-taken.ensures.taken count;
    }

pub returns-in-None-clause-attended : goal.returns-in-None-clause-attended
returns-in-None-clause-attended g c =
    let gives = g.D.Delivers.gives in
    let reads = g.C.MomentSource.reads in
    let places = g.D.Delivers.stations c.args.desk.now in
    let end = c.end_at_once.result in
    subst (λ n. IsAttended gives reads g.S.Read.remaining g.S.Write.contents places end.end.why n (point c.args.pass.now c.args.clock.now c.args.socket.now [])
    (point c.args.pass.now c.args.clock.now c.args.socket.now end.seen.items)) (sym c.end_at_once.ensures.texts)
    (subst (λ l. IsAttended gives reads g.S.Read.remaining g.S.Write.contents places end.end.why 0 (point c.args.pass.now c.args.clock.now c.args.socket.now [])
    (point c.args.pass.now c.args.clock.now c.args.socket.now l)) (sym c.end_at_once.ensures.seen)
    (rests gives reads g.S.Read.remaining g.S.Write.contents places _ _ 0 _ (none_yet gives reads g.S.Read.remaining g.S.Write.contents places _ 0 refl)))

pub returns-in-Err-clause-attended : goal.returns-in-Err-clause-attended
returns-in-Err-clause-attended g c =
    let gives = g.D.Delivers.gives in
    let reads = g.C.MomentSource.reads in
    let places = g.D.Delivers.stations c.args.desk.now in
    subst (λ e. IsAttended gives reads g.S.Read.remaining g.S.Write.contents places e.end.why e.texts (point c.args.pass.now c.args.clock.now c.args.socket.now []) (point c.loop-turn.pass c.loop-turn.clock c.await_message.new.socket e.seen.items)) (sym c.end_after.ensures)
    (ends_waiting gives reads g.S.Read.remaining g.S.Write.contents places (point c.args.pass.now c.args.clock.now c.args.socket.now [])
    (point c.loop-turn.pass c.loop-turn.clock c.loop-turn.socket c.loop-turn.kept.seen.items) c.await_message.new.socket c.loop-turn.texts c.in-Err.end.why c.loop-turn.invariant.attended c.in-Err.ensures.waits)

pub returns-in-Err-taken-clause-attended : goal.returns-in-Err-taken-clause-attended
returns-in-Err-taken-clause-attended g c =
    let gives = g.D.Delivers.gives in
    let reads = g.C.MomentSource.reads in
    let places = g.D.Delivers.stations c.args.desk.now in
    let m = c.answer_message-taken.new in
    subst (λ e. IsAttended gives reads g.S.Read.remaining g.S.Write.contents places e.end.why e.texts (point c.args.pass.now c.args.clock.now c.args.socket.now []) (point m.pass m.clock m.socket e.seen.items)) (sym c.end_after-in-Err-taken.ensures)
    (ends_with gives reads g.S.Read.remaining g.S.Write.contents places (point c.args.pass.now c.args.clock.now c.args.socket.now [])
    (point c.loop-turn.pass c.loop-turn.clock c.loop-turn.socket c.loop-turn.kept.seen.items) (point m.pass m.clock m.socket m.kept.seen.items) c.await_message.new.socket c.loop-turn.texts _ c.in-Err-taken.end c.loop-turn.invariant.attended
    c.in-Ok.ensures.comes c.in-Err-taken.ensures.taken)

pub returns-clause-attended : goal.returns-clause-attended
returns-clause-attended g c =
    let gives = g.D.Delivers.gives in
    let reads = g.C.MomentSource.reads in
    let places = g.D.Delivers.stations c.args.desk.now in
    subst (λ e. IsAttended gives reads g.S.Read.remaining g.S.Write.contents places e.end.why e.texts (point c.args.pass.now c.args.clock.now c.args.socket.now []) (point c.loop-turn.pass c.loop-turn.clock c.loop-turn.socket e.seen.items)) (sym c.end_after-2.ensures)
    (rests gives reads g.S.Read.remaining g.S.Write.contents places (point c.args.pass.now c.args.clock.now c.args.socket.now []) (point c.loop-turn.pass c.loop-turn.clock c.loop-turn.socket c.loop-turn.kept.seen.items) c.loop-turn.texts _ c.loop-turn.invariant.attended)
