use Rattle.running_desk.proofs.Pooled.{taken_is_of}
use Rattle.running_desk.proofs.running.Running.left_pass.Goals as goal

pub returns : goal.returns
returns g c = taken_is_of c.args.station c.deref_mut.result.now c.take.new.self c.take.result c.take.ensures
