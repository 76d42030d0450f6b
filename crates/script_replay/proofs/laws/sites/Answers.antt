use Rattle.script_replay.proofs.SiteSums.{sites_are_sums}
use Rattle.script_replay.proofs.laws.sites.Goals as goal

pub returns : goal.returns
returns c = sites_are_sums
