use Rattle.script_replay.proofs.ReachedStations.{energy_is_from_scratch, export_is_from_scratch}
use Rattle.script_replay.proofs.laws.energies.Goals as goal

pub returns-clause-imported : goal.returns-clause-imported
returns-clause-imported c = energy_is_from_scratch

pub returns-clause-exported : goal.returns-clause-exported
returns-clause-exported c = export_is_from_scratch
