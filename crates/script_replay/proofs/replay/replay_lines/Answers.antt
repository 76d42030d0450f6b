use Rattle.std.proofs.Common.{◌≡◌, ◌<◌, ap, ◌∙◌, Ok, Err, arith, length, eqb-true, refl, subst, sym}
use Rattle.script_lines.{specs.declared.fault.ReplayFault.TheVariants.ReadFault, specs.declared.line_reader.LineEnd.TheVariants.{Feed, Input}, proofs.Pieces.nonempty, specs.Ranges.longest_line}
use Rattle.script_replay.proofs.AnsweredLines.{looked, look_failed, asked, line_stopped, line_absent, answer_stopped, answer_ended, answer_goes_on, less_room, some_feed, no_input, reached_now, as_replay, begins, AnsweredLines}
use Rattle.script_ledgers.{specs.Ranges.longest_script, specs.Script.{start, script_text}, specs.State.State}
use Rattle.script_replay.proofs.replay.replay_lines.Goals as goal

pub returns-then-is_err-clause-run : goal.returns-then-is_err-clause-run
returns-then-is_err-clause-run g c =
    as_replay _ _ _ _ (Err ReadFault) (look_failed (Unit {0}) _ _ _ _ _ _ _ _ _ _ _ c.lines.invariant.0 c.look.ensures.reader (ap (λ (x : State). script_text x.script) c.look.ensures.same) refl)

pub returns-in_err-next_line_flushing-clause-run : goal.returns-in_err-next_line_flushing-clause-run
returns-in_err-next_line_flushing-clause-run g c =
    let n = asked _ _ _ _ _ _ _ _ _ _ _ _ _ c.next_line_flushing.result c.next_line_flushing.new.self.held.items
    (looked _ _ _ _ _ _ _ _ _ _ _ c.lines.invariant.0 c.look.ensures.reader (ap (λ (x : State). script_text x.script) c.look.ensures.same))
    c.lines.invariant.1 refl c.next_line_flushing.ensures.takes c.next_line_flushing.ensures.writer in
    as_replay _ _ _ _ _ (line_stopped _ _ _ _ _ _ _ _ _ _ _ n (Unit {0}) c.in_err-next_line_flushing.field-0.0 _ c.in_err-next_line_flushing.was c.from_residual.ensures.1)

pub returns-in_err-answer_line-in-Feed-clause-run : goal.returns-in_err-answer_line-in-Feed-clause-run
returns-in_err-answer_line-in-Feed-clause-run g c =
    let n = asked _ _ _ _ _ _ _ _ _ _ _ _ _ c.next_line_flushing.result c.next_line_flushing.new.self.held.items
    (looked _ _ _ _ _ _ _ _ _ _ _ c.lines.invariant.0 c.look.ensures.reader (ap (λ (x : State). script_text x.script) c.look.ensures.same))
    c.lines.invariant.1 refl c.next_line_flushing.ensures.takes c.next_line_flushing.ensures.writer in
    let a = c.in_err-answer_line-in-Feed.ensures.run in
    as_replay _ _ _ _ _ (answer_stopped _ _ _ _ _ _ _ _ _ _ _ n Feed (c.in_ok-next_line_flushing.was ∙ ap Ok c.in-Feed.is)
    (some_feed _) _ _ (c.next_line_flushing.ensures.max_line_bytes ∙ c.lines.invariant.1) c.line-line.ensures _ a.0 a.1 (Unit {0})
    c.in_err-answer_line-in-Feed.field-0.0 _
    (no_input _) c.from_residual-in_err-answer_line-in-Feed.ensures.1 a.2)

pub lines-preserved : goal.lines-preserved
lines-preserved g c =
    let n = asked _ _ _ _ _ _ _ _ _ _ _ _ _ c.next_line_flushing.result c.next_line_flushing.new.self.held.items
    (looked _ _ _ _ _ _ _ _ _ _ _ c.lines.invariant.0 c.look.ensures.reader (ap (λ (x : State). script_text x.script) c.look.ensures.same))
    c.lines.invariant.1 refl c.next_line_flushing.ensures.takes c.next_line_flushing.ensures.writer in
    let a = c.in_ok-answer_line-in-Feed.ensures in
    let is = c.in_ok-next_line_flushing.was ∙ ap Ok c.in-Feed.is in (
      answer_goes_on _ _ _ _ _ _ _ _ _ _ _ n is _ _ (c.next_line_flushing.ensures.max_line_bytes ∙ c.lines.invariant.1) c.line-line.ensures _ a.run.0 a.run.1 _ a.run.2,
      c.next_line_flushing.ensures.max_line_bytes ∙ c.lines.invariant.1,
      omega (arith, a.count, ap (λ (x : State). x.posts) c.look.ensures.same, c.lines.invariant.2, less_room _ _ _ _ _ _ _ _ _ _ _ n is),
      omega (arith, c.lines.invariant.3, a.work),
    )

pub returns-then-is_empty-clause-run : goal.returns-then-is_empty-clause-run
returns-then-is_empty-clause-run g c =
    let n = asked _ _ _ _ _ _ _ _ _ _ _ _ _ c.next_line_flushing.result c.next_line_flushing.new.self.held.items
    (looked _ _ _ _ _ _ _ _ _ _ _ c.lines.invariant.0 c.look.ensures.reader (ap (λ (x : State). script_text x.script) c.look.ensures.same))
    c.lines.invariant.1 refl c.next_line_flushing.ensures.takes c.next_line_flushing.ensures.writer in
    let none : length c.next_line_flushing.new.self.held.items ≡ 0 = omega (arith, c.next_line_flushing.new.self.held.ok.0, eqb-true _ _ (sym c.if-is_empty.ensures)) in
    as_replay _ _ _ _ (Ok tt) (line_absent _ _ _ _ _ _ _ _ _ _ _ n (c.in_ok-next_line_flushing.was ∙ ap Ok c.in-Input.is) none)

pub returns-in_err-answer_line-in-Input-clause-run : goal.returns-in_err-answer_line-in-Input-clause-run
returns-in_err-answer_line-in-Input-clause-run g c =
    let n = asked _ _ _ _ _ _ _ _ _ _ _ _ _ c.next_line_flushing.result c.next_line_flushing.new.self.held.items
    (looked _ _ _ _ _ _ _ _ _ _ _ c.lines.invariant.0 c.look.ensures.reader (ap (λ (x : State). script_text x.script) c.look.ensures.same))
    c.lines.invariant.1 refl c.next_line_flushing.ensures.takes c.next_line_flushing.ensures.writer in
    let some : 0 < length c.next_line_flushing.new.self.held.items = omega (arith, c.next_line_flushing.new.self.held.ok.0, nonempty _ c.if-is_empty.ensures) in
    let a = c.in_err-answer_line-in-Input.ensures.run in
    as_replay _ _ _ _ _ (answer_stopped _ _ _ _ _ _ _ _ _ _ _ n Input (c.in_ok-next_line_flushing.was ∙ ap Ok c.in-Input.is) some
    _ _ (c.next_line_flushing.ensures.max_line_bytes ∙ c.lines.invariant.1) c.line-line-in-Input.ensures _ a.0 a.1 (Unit {0})
    c.in_err-answer_line-in-Input.field-0.0 _
    (λ is. reached_now _ _ _ _ _ _ _ _ _ _ _ n (c.next_line_flushing.ensures.end (c.in_ok-next_line_flushing.was ∙ ap Ok c.in-Input.is))) c.from_residual-in_err-answer_line-in-Input.ensures.1 a.2)

pub returns-in-Input-clause-run : goal.returns-in-Input-clause-run
returns-in-Input-clause-run g c =
    let n = asked _ _ _ _ _ _ _ _ _ _ _ _ _ c.next_line_flushing.result c.next_line_flushing.new.self.held.items
    (looked _ _ _ _ _ _ _ _ _ _ _ c.lines.invariant.0 c.look.ensures.reader (ap (λ (x : State). script_text x.script) c.look.ensures.same))
    c.lines.invariant.1 refl c.next_line_flushing.ensures.takes c.next_line_flushing.ensures.writer in
    let some : 0 < length c.next_line_flushing.new.self.held.items = omega (arith, c.next_line_flushing.new.self.held.ok.0, nonempty _ c.if-is_empty.ensures) in
    let a = c.in_ok-answer_line-in-Input.ensures.run in
    let later = refl in
    as_replay _ _ _ _ (Ok tt)
    (answer_ended _ _ _ _ _ _ _ _ _ _ _ n Input (c.in_ok-next_line_flushing.was ∙ ap Ok c.in-Input.is) some
    _ _ (c.next_line_flushing.ensures.max_line_bytes ∙ c.lines.invariant.1) c.line-line-in-Input.ensures _ a.0 a.1 _ later a.2)

pub lines-init : goal.lines-init
lines-init g c =
    let text : start ≡ c.begin-script.result.script = sym (ap (λ (x : State). x.script) c.begin-script.ensures) in
    let r = g.R.Read.remaining c.args.reader.now in
    let w = g.W.Write.contents c.args.writer.now in
    let first = begins (script_text start) longest_line longest_script r w in (
      subst (λ n. AnsweredLines (script_text start) (script_text c.begin-script.result.script) longest_line longest_script n r r w w) (sym c.open-lines.ensures.room)
          (subst (λ t. AnsweredLines (script_text start) (script_text t) longest_line longest_script longest_script r r w w) text first),
      c.open-lines.ensures.max_line_bytes,
      omega (arith, ap (λ (x : State). x.posts) c.begin-script.ensures, c.open-lines.ensures.room),
      omega arith,
    )

pub returns-then-is_empty-clause-end : goal.returns-then-is_empty-clause-end
returns-then-is_empty-clause-end g c =
    let n = asked _ _ _ _ _ _ _ _ _ _ _ _ _ c.next_line_flushing.result c.next_line_flushing.new.self.held.items
    (looked _ _ _ _ _ _ _ _ _ _ _ c.lines.invariant.0 c.look.ensures.reader (ap (λ (x : State). script_text x.script) c.look.ensures.same))
    c.lines.invariant.1 refl c.next_line_flushing.ensures.takes c.next_line_flushing.ensures.writer in
    reached_now _ _ _ _ _ _ _ _ _ _ _ n (c.next_line_flushing.ensures.end (c.in_ok-next_line_flushing.was ∙ ap Ok c.in-Input.is))

pub returns-in-Input-clause-end : goal.returns-in-Input-clause-end
returns-in-Input-clause-end g c =
    let n = asked _ _ _ _ _ _ _ _ _ _ _ _ _ c.next_line_flushing.result c.next_line_flushing.new.self.held.items
    (looked _ _ _ _ _ _ _ _ _ _ _ c.lines.invariant.0 c.look.ensures.reader (ap (λ (x : State). script_text x.script) c.look.ensures.same))
    c.lines.invariant.1 refl c.next_line_flushing.ensures.takes c.next_line_flushing.ensures.writer in
    reached_now _ _ _ _ _ _ _ _ _ _ _ n (c.next_line_flushing.ensures.end (c.in_ok-next_line_flushing.was ∙ ap Ok c.in-Input.is))
