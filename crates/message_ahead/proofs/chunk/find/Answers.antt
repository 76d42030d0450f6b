use Rattle.std.{proofs.Common.{◌-◌, arith, length-take, length-drop, drop, subst}, specs.Prelude.{IfSome, ◌++◌, ◌∷◌, []}, proofs.lemmas.List.Elements.{All-push, All-same}}
use Rattle.message_ahead.{specs.Ahead.IsFound, proofs.Found.all-stay-found}
use Rattle.message_ahead.proofs.chunk.find.Goals as goal

pub lines-preserved-in_ok-push : goal.lines-preserved-in_ok-push
lines-preserved-in_ok-push c =
    let P = IsFound c.args.bytes.now c.event_of_line.new.readings.items in
    let one = subst (λ o. IfSome o P) c.in-Some.is c.in_ok-event.ensures.found in
    let kept = all-stay-found c.args.bytes.now c.lines.readings.items c.event_of_line.new.readings.items c.event_of_line.ensures.kept c.lines.found.items c.lines.invariant.0 in (
      All-same P c.push.new.self.items (c.lines.found.items ++ c.in-Some.event ∷ []) c.in_ok-push.ensures.items (All-push P c.lines.found.items c.in-Some.event kept one),
      omega (
        arith,
        c.line_start.ensures,
        length-take (c.lines.end - 1 - c.args.begin) (drop c.args.begin c.args.bytes.now),
        length-drop c.args.begin c.args.bytes.now,
        c.lines.invariant.1,
        c.lines.invariant.2,
        c.lines-test.true,
      ),
      omega arith,
    )

pub returns-in_err-push : goal.returns-in_err-push
returns-in_err-push c =
    let P = IsFound c.args.bytes.now c.event_of_line.new.readings.items in
    let kept = all-stay-found c.args.bytes.now c.lines.readings.items c.event_of_line.new.readings.items c.event_of_line.ensures.kept c.lines.found.items c.lines.invariant.0 in
    All-same P c.push.new.self.items c.lines.found.items (c.in_err-push.ensures).items kept
