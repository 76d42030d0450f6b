use Rattle.std.proofs.Common.{◌≡◌, ap, ◌∙◌, rules}
use Rattle.ledger_model.specs.Name.{is_name}
use Rattle.journal_server.{specs.Simulated.simulated_name, proofs.SimulatedPlan.named}
use Rattle.journal_server.proofs.simulation.station_name.Goals as goal

pub unwrap-requires : goal.unwrap-requires
unwrap-requires c =
    let text : c.as_str.result.now ≡ simulated_name c.args.number = search rules in
    c.new-2.ensures.valid.1 (ap is_name text ∙ named c.args.number c.requires)
