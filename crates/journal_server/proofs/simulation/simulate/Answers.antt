use Rattle.std.proofs.Common.{None, Some, [], IfOk, refl, subst}
use Rattle.journal_server.{specs.Left.left_of, specs.Served.{IsNewRun, TellsNew}, proofs.Ends.run_of_plan}
use Rattle.journal_server.proofs.simulation.simulate.Goals as goal

pub returns : goal.returns
returns g c =
    let plan = c.simulated_plan-plan.result in
    let made = c.simulated_plan-plan.ensures in
    let run = subst (λ r. IfOk r (λ s. IsNewRun plan.sites.items plan.stations.items None (left_of (λ _. None) s) (TellsNew s.ended plan.stations.items (Some []) None None)))
    c.in_ok-served.was c.play_all-served.ensures in
    (run_of_plan _ _ _ _ None (left_of (λ _. None) c.in_ok-served.served) _ made.sites made.stations run, refl)
