use Rattle.script_replay.{proofs.Lists.{pairs_make_energies, parts_make_periods}, proofs.ReachedStations.lists_are_from_scratch}
use Rattle.script_replay.proofs.laws.lists.Goals as goal

pub returns-clause-answers : goal.returns-clause-answers
returns-clause-answers c = lists_are_from_scratch

pub returns-clause-energies : goal.returns-clause-energies
returns-clause-energies c = pairs_make_energies

pub returns-clause-periods : goal.returns-clause-periods
returns-clause-periods c = parts_make_periods
