use Rattle.std.proofs.Common.{sym, ap, subst, ◌∙◌}
use Rattle.board_report.{specs.Lines.quarter_sums, specs.Sums.{AreQuartersOf, QuartersFit}, proofs.SumLemmas.{sums_own, sums_permuted, fit_permuted}}
use Rattle.board_report.proofs.sums.site_quarters.Goals as goal

-- the lines in order add up to no more
pub falling_sums-requires-clause-fit : goal.falling_sums-requires-clause-fit
falling_sums-requires-clause-fit c =
    let lines = c.in_ok-lines.lines.items in
    subst QuartersFit (sym c.deref.ensures.value) (fit_permuted lines _ c.put_in_order.ensures.same (subst QuartersFit (sym c.in_ok-lines.ensures.lines) c.requires))

-- and to the same
pub returns-clause-sums : goal.returns-clause-sums
returns-clause-sums c =
    let lines = c.in_ok-lines.lines.items in
    c.reverse.ensures.items ∙ c.in_ok-quarters.ensures ∙ ap quarter_sums c.deref.ensures.value ∙ sums_permuted lines _ c.put_in_order.ensures.same ∙ ap quarter_sums c.in_ok-lines.ensures.lines

-- of periods of the lines
pub returns-clause-own : goal.returns-clause-own
returns-clause-own c = λ period of.
    let lines = c.in_ok-lines.lines.items in
    subst (AreQuartersOf period) (sym (c.reverse.ensures.items ∙ c.in_ok-quarters.ensures ∙ ap quarter_sums c.deref.ensures.value ∙ sums_permuted lines _ c.put_in_order.ensures.same))
    (sums_own period lines (c.in_ok-lines.ensures.own period of))
