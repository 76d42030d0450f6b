use Rattle.ocppj_frame.proofs.Messages.{frame-Called}
use Rattle.ocppj_frame.proofs.laws.calls_are_taken.Goals as goal

pub returns : goal.returns
returns c = λ text id action payload. frame-Called text id action payload
