use Rattle.std.{proofs.Common.{◌≡◌, List, map, sym, ap, subst, ◌∙◌, arith}, specs.Prelude.IfOk}
use Rattle.event_chain.specs.Chains.{stored}
use Rattle.ledger_model.{specs.Board.Flowed, specs.Periods.Periods, specs.declared.settle.Settle.TheVariants.Even}
use Rattle.quarter_table.{specs.Pairs.{board_flows_by, line_of, rows_of}, proofs.Boards.{lines_of_station, whole_station}}
use Rattle.station_ledger.{specs.Shares.evenly, specs.Sums.order_in}
use Rattle.station_ledger.proofs.lines.settled_lines.Goals as goal

-- where nothing is shared, the rows that are kept are the board's
pub returns-in-Later-clause-lines : goal.returns-in-Later-clause-lines
returns-in-Later-clause-lines c =
    let es = stored c.args.chains.now in let order = order_in c.args.sums.now in let period = c.args.sums.now.period in
    let whole = whole_station order period es (λ even. grind (arith, c.in-Later.is, c.rule.ensures, even)) in
    subst (λ (ls : List Flowed). IfOk c.quarter_lines.result (λ lines. lines.items ≡ ls))
    (ap (map line_of) (c.requires.summed.by_quarter.rows ∙ ap rows_of (sym whole)) ∙ lines_of_station order period es) c.quarter_lines.ensures

-- the rows that are shared now are the board's
pub returns-in_ok-shared_rows-in-Even-clause-lines : goal.returns-in_ok-shared_rows-in-Even-clause-lines
returns-in_ok-shared_rows-in-Even-clause-lines c =
    let es = stored c.args.chains.now in let order = order_in c.args.sums.now in let period = c.args.sums.now.period in
    let rule : period.rule ≡ Even = sym c.rule.ensures ∙ c.in-Even.is in
    let is : evenly period.length ≡ period = λ i. record { length = period.length; rule = sym rule i } in
    subst (λ (ls : List Flowed). IfOk c.quarter_lines-in-Even-2.result (λ lines. lines.items ≡ ls))
    (ap (map line_of) (c.in_ok-shared_rows-in-Even.ensures.rows ∙ ap (λ (p : Periods). rows_of (board_flows_by order p es)) is) ∙ lines_of_station order period es) c.quarter_lines-in-Even-2.ensures
