use Rattle.std.proofs.Common.{◌∷◌, refl}
use Rattle.serde_json.specs.Data.{string}
use Rattle.marked_json.proofs.StringLaws.{reading-string}
use Rattle.marked_json.proofs.laws.a_string_is_a_text.Goals as goal

pub returns : goal.returns
returns c = λ content. (string (36 ∷ content), reading-string content, record { text = refl; no_number = refl; no_items = refl; no_object = refl })
