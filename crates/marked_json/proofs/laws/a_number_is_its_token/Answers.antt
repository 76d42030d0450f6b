use Rattle.std.proofs.Common.{◌∷◌, refl}
use Rattle.serde_json.specs.Data.{string}
use Rattle.marked_json.proofs.StringLaws.{reading-number}
use Rattle.marked_json.proofs.laws.a_number_is_its_token.Goals as goal

pub returns : goal.returns
returns c = λ token is. (string (35 ∷ token), reading-number token is, record { number = refl; no_text = refl; no_items = refl; no_object = refl })
