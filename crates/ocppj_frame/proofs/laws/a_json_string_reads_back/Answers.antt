use Rattle.ocppj_frame.proofs.ReadBack.{read-json_string}
use Rattle.ocppj_frame.proofs.laws.a_json_string_reads_back.Goals as goal

pub returns : goal.returns
returns c = λ text utf8. read-json_string text utf8
