use Rattle.std.{proofs.Common.{◌≡◌, ℕ, List, ◌∷◌, [], ◌++◌, sym, subst, arith}, proofs.lemmas.List.Elements.{All-append, All-cons, All-nil}, proofs.lemmas.List.Sums.sum_by-append}
use Rattle.ledger_model.{specs.Board.Board, specs.Limits.{Bounds, default_limits}, specs.Settling.default_periods}
use Rattle.board_report.{specs.Plans.AreBoardsWithin, specs.Sums.AreOfPeriod, proofs.PlanLemmas.{plans_fit, AreBoardsWithin-more}}
use Rattle.desk_tests.proofs.tests.ledger.report.stations.Goals as goal

-- one station more
pub loop-name-preserved : goal.loop-name-preserved
loop-name-preserved c =
    let k = c.loop-name.invariant in
    let plan = k.0 ++ default_limits ∷ [] in
    let one : List ℕ × Board → Type 0 = λ s. s.1.period ≡ default_periods in (
      plan,
      (
        omega (arith, k.1.0, sum_by-append (λ (limits : Bounds). limits.readings) k.0 (default_limits ∷ [])),
        subst (AreBoardsWithin plan) (sym c.in_ok-push.ensures.items) (AreBoardsWithin-more k.0 c.loop-name.boards.items default_limits _ k.1.1 c.in_ok-board.ensures.within),
        subst (AreOfPeriod default_periods) (sym c.in_ok-push.ensures.items) (All-append one c.loop-name.boards.items (_ ∷ []) k.1.2 (All-cons one _ [] c.in_ok-board.ensures.period (All-nil one))),
      ),
    )

-- at most 64 stations
pub returns-clause-fit : goal.returns-clause-fit
returns-clause-fit c =
    let k = c.loop-name.invariant in
    plans_fit k.0 c.loop-name.boards.items (omega (arith, k.1.0, c.loop-name-test.false, c.loop-name.auto.name-index-end, c.if-told-gt64.false)) k.1.1

pub returns-clause-periods : goal.returns-clause-periods
returns-clause-periods c = c.loop-name.invariant.1.2
