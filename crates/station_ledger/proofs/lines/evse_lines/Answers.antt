use Rattle.std.{proofs.Common.{◌≡◌, ◌+◌, ◌++◌, ◌<◌, ◌∷◌, [], map, sym, ap, subst, ◌∙◌, arith, ◌≤◌}, specs.Prelude.IfSome, proofs.lemmas.Option.unwrap_or-slice_get, proofs.lemmas.Grind.common_steps}
use Rattle.ledger_model.{specs.Evse.{evses, flows_at_by}, specs.Ranges.greatest_evse}
use Rattle.station_ledger.{specs.Moved.{no_sum, sum_at}, proofs.EvseLines.{all_lines, line_more, line_same, lines_below, none_yet}, proofs.lines.evse_lines.Goals.{then-sum-gt0+in_ok-push, else-sum-gt0}}
use Rattle.station_ledger.proofs.lines.evse_lines.Goals as goal

pub loop-number-init : goal.loop-number-init
loop-number-init c order es are = c.new-lines.ensures.items ∙ sym (ap (map (λ evse. (evse, flows_at_by order evse es))) (none_yet (evses es)))

-- the next number's line, where its EVSE has a transaction
pub loop-number-preserved : goal.loop-number-preserved
loop-number-preserved c order es are =
    let evses = c.args.evses.now in let n = c.loop-number.number in
    let at : sum_at evses n ≡ c.index-evses-from.result =
    unwrap_or-slice_get evses n no_sum ∙ (grind (arith, common_steps, c.index-evses-from.is, c.from.ensures, c.loop-number-test.true, c.requires)) in
    let le : n ≤ greatest_evse = omega (arith, c.loop-number-test.true) in let was = c.loop-number.invariant order es are in
    elim c.if-sum-gt0.branch [
      | then-sum-gt0+in_ok-push w ↦
          let number = subst (λ o. IfSome o (λ e. e ≡ n)) w.unwrap-evse.ensures w.new.ensures.value in
          ap (λ v. v.items) w.lines-is ∙ w.in_ok-push.ensures.items
          ∙ (λ i. was i ++ (w.new-then-sum-gt0.ensures ∙ (λ j. (number j, (sym at j).energy))) i ∷ [])
          ∙ sym (line_more are le (subst (λ s. 0 < s.transactions) (sym at) w.if-sum-gt0.true))
      | else-sum-gt0 w ↦
          ap (λ v. v.items) w.lines-is ∙ was ∙ sym (line_same are le (λ some. absurd (omega (arith, some, w.if-sum-gt0.false, ap (λ s. s.transactions) at))))
    ]

-- past the last number these are all
pub returns : goal.returns
returns c order es in_range are =
    let end : c.loop-number.number ≡ greatest_evse + 1 = omega (arith, c.loop-number-test.false, c.loop-number.auto) in
    c.loop-number.invariant order es are ∙ ap (lines_below order es) end ∙ all_lines order es in_range
