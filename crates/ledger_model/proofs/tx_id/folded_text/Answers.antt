use Rattle.std.{proofs.Common.{◌∙◌, ap, map, subst, sym}, specs.Char.to_ascii_lowercase, specs.Str.IsUtf8, proofs.lemmas.Str.IsUtf8-from_ascii}
use Rattle.ledger_model.proofs.Ids.{lower-folded, visible-folded, visible-IsAscii}
use Rattle.ledger_model.proofs.tx_id.folded_text.Goals as goal

pub from_utf8_unchecked-requires : goal.from_utf8_unchecked-requires
from_utf8_unchecked-requires c =
    let lower = c.make_ascii_lowercase.ensures.after ∙ ap (map to_ascii_lowercase) c.copy_from_slice.ensures.after ∙ lower-folded c.args.bytes.now in
    subst IsUtf8 (sym lower) (IsUtf8-from_ascii _ (visible-IsAscii _ (visible-folded c.args.bytes.now c.requires.visible)))
