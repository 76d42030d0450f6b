use Rattle.std.proofs.Common.{◌≡◌, ◌∙◌, ℕ, List, ap, sym, rules}
use Rattle.script_ledgers.specs.Script.{line_step}
use Rattle.journal_script.specs.Reading.{held_line}
use Rattle.journal_script.proofs.restored_script.RestoredScript.answer.Goals as goal

pub returns-clause-step : goal.returns-clause-step
returns-clause-step g c =
    let a = c.args.self.now in
    let new = c.answer.new.self in
    let s = a.script.script in
    let t = new.script in
    let told : c.deref.result.now ≡ c.answer.new.reply.items = search rules in
    let step : line_step s (held_line a.source.lines) ≡ (t, c.deref.result.now) = ap (line_step s) (sym c.line.ensures) ∙ c.in_ok-answer.ensures.step ∙ ap (λ (x : List ℕ). (t, x)) (sym told) in
    let stands = c.tell.ensures.step s t step in
    λ i. record { standing = stands i; lines = c.tell.ensures.lines i }
