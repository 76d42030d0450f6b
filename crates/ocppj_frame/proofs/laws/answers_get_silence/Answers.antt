use Rattle.ocppj_frame.proofs.Messages.{frame-Silence}
use Rattle.ocppj_frame.proofs.laws.answers_get_silence.Goals as goal

pub returns : goal.returns
returns c = λ text. frame-Silence text
