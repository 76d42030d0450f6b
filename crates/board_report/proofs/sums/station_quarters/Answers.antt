use Rattle.std.{proofs.Common.{ℕ, List, ◌++◌, ◌∙◌, ap, sym, subst}, proofs.lemmas.List.Elements.All-append}
use Rattle.ledger_model.{specs.Board.{Board, Flowed}, specs.Quarter.IsQuarterOf}
use Rattle.board_report.{specs.Sums.AreQuartersOf, proofs.SumLemmas.stations_more}
use Rattle.board_report.proofs.sums.station_quarters.Goals as goal

-- the next station's lines are of periods of its board's length
pub loop-station-preserved : goal.loop-station-preserved
loop-station-preserved c = record {
  lines = c.in_ok-extend_from_slice.ensures.items ∙ (λ i. c.loop-station.invariant.lines i ++ c.quarters.ensures.value i)
      ∙ sym (stations_more c.args.stations.now c.loop-station.station-index c.station-item.result c.loop-station-test.true c.station-item.is);
  own = λ period of.
      let same = ap (λ (s : List ℕ × Board). s.1.period) c.station-item.is ∙ of c.loop-station.station-index c.station-item.result c.loop-station-test.true in
      subst (AreQuartersOf period) (sym c.in_ok-extend_from_slice.ensures.items)
      (All-append (λ (line : Flowed). IsQuarterOf period.length line.0) c.loop-station.lines.items c.quarters.result.now (c.loop-station.invariant.own period of)
      (subst (λ p. AreQuartersOf p c.quarters.result.now) same c.quarters.ensures.own));
}
