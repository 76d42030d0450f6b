use Rattle.marked_json.proofs.StringLaws.{marked-quoted}
use Rattle.marked_json.proofs.laws.a_string_keeps_its_content.Goals as goal

pub returns : goal.returns
returns c = marked-quoted
