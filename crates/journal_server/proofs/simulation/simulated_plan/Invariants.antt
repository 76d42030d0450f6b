use Rattle.std.proofs.Common.{◌≡◌, codes}
use Rattle.journal_server.specs.Simulated.{simulated_sites, simulated_stations}
use Rattle.journal_server.proofs.simulation.simulated_plan.Given as goal

-- the stations so far
abbrev pub invariant-loop-before : goal.invariant-loop-before
invariant-loop-before l = (l.site ≡ codes "sim") × (l.plan.sites.items ≡ simulated_sites l.before) × (l.plan.stations.items ≡ simulated_stations l.before)
