use Rattle.std.proofs.Common.{ap}
use Rattle.journal_script.specs.Reading.{standing}
use Rattle.journal_script.proofs.restored_script.RestoredScript.next.Goals as goal

pub returns-clause-standing : goal.returns-clause-standing
returns-clause-standing g c = ap (standing c.args.self.now.script.script) c.next.ensures.left_out
