use Rattle.std.{proofs.Common.{◌≤◌, [], ◌∷◌, sym, subst, arith}, specs.List.sum_by, proofs.lemmas.List.Sums.sum_by-cons}
use Rattle.ledger_model.{specs.Limits.Bounds, specs.Ranges.most_plan_readings}
use Rattle.board_report.{specs.Plans.AreBoardsWithin, specs.Sums.{station_quarters, QuartersFit}, proofs.PlanLemmas.plans_fit}
use Rattle.desk_tests.proofs.tests.desk.three.boards_of.Goals as goal

-- two stations store no more readings than a plan may
pub returns-clause-fit : goal.returns-clause-fit
returns-clause-fit g c =
    let first = c.ledger.result.now.limits in
    let second = c.ledger-2.result.now.limits in
    let few : sum_by (λ (limits : Bounds). limits.readings) (first ∷ second ∷ []) ≤ most_plan_readings = omega (
      arith,
      c.in_ok-a.ensures.few,
      c.in_ok-b.ensures.few,
      sum_by-cons (λ (limits : Bounds). limits.readings) first (second ∷ []),
      sum_by-cons (λ (limits : Bounds). limits.readings) second [],
    ) in
    let boards = (c.args.first, c.in_ok-a.a) ∷ (c.args.second, c.in_ok-b.b) ∷ [] in
    let within : AreBoardsWithin (first ∷ second ∷ []) boards = (c.in_ok-a.ensures.within, (c.in_ok-b.ensures.within, tt)) in
    subst (λ items. QuartersFit (station_quarters items)) (sym c.in_ok-vec.ensures.items) (plans_fit (first ∷ second ∷ []) boards few within)
