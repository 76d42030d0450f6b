use Rattle.std.proofs.Common.{sym, subst, ◌∙◌}
use Rattle.event_chain.specs.Chains.{stored}
use Rattle.ledger_model.{specs.Board.board_by, specs.Quarter.IsPeriod}
use Rattle.station_ledger.{specs.Lines.AreStationLines, specs.Sums.{AreEvseSums, order_in}, proofs.BoardLines.lines_within}
use Rattle.station_ledger.proofs.lines.board_of.Goals as goal

-- the lines are the board's, and no line has more than the station
pub invariant_of-result : goal.invariant_of-result
invariant_of-result c =
    let es = stored c.args.chains.now in let order = order_in c.args.sums.now in
    let sums = subst (AreEvseSums order es) (sym c.deref.ensures.value) c.requires.summed.at_evses in
    let evses = c.of.ensures ∙ c.in_ok-evses.ensures order es c.requires.numbered sums in
    let quarters = c.of-2.ensures ∙ c.in_ok-quarters.ensures.lines in
    let lines = lines_within order c.args.chains.now.limits es c.requires.within c.args.sums.now.period (subst (λ p. IsPeriod p.length) c.copied.ensures.value c.copied.ensures.range) in
    subst (λ p. AreStationLines p c.of.result c.of-2.result) (sym c.copied.ensures.value)
    (subst (λ ls. AreStationLines c.args.sums.now.period ls c.of-2.result) (sym evses)
    (subst (AreStationLines c.args.sums.now.period (board_by order c.args.sums.now.period es).evses) (sym quarters) lines))

-- each list is the board's
pub returns-clause-board : goal.returns-clause-board
returns-clause-board c =
    let es = stored c.args.chains.now in let order = order_in c.args.sums.now in
    let sums = subst (AreEvseSums order es) (sym c.deref.ensures.value) c.requires.summed.at_evses in
    let evses = c.of.ensures ∙ c.in_ok-evses.ensures order es c.requires.numbered sums in
    let quarters = c.of-2.ensures ∙ c.in_ok-quarters.ensures.lines in
    let transactions = c.of-3.ensures ∙ c.in_ok-transactions.ensures in
    λ i. record { period = c.copied.ensures.value i; figures = c.requires.figures i; evses = evses i; quarters = quarters i; transactions = transactions i }
