use Rattle.std.proofs.Common.{ap}
use Rattle.script_ledgers.specs.State.{State}
use Rattle.journal_script.specs.Reading.{place}
use Rattle.journal_script.proofs.restored_script.RestoredScript.look.Goals as goal

pub returns-in-Ok-clause-place : goal.returns-in-Ok-clause-place
returns-in-Ok-clause-place g c = ap (λ (s : State). place s.script c.args.self.now.source) c.look.ensures.same

pub returns-in-Err-clause-place : goal.returns-in-Err-clause-place
returns-in-Err-clause-place g c = ap (λ (s : State). place s.script c.args.self.now.source) c.look.ensures.same
