use Rattle.marked_json.proofs.Texts.{IsUtf8-marked}
use Rattle.marked_json.proofs.marking.marked_text.Goals as goal

pub from_utf8_unchecked-requires : goal.from_utf8_unchecked-requires
from_utf8_unchecked-requires c = IsUtf8-marked c.args.text.now c.mark_whole.new.out.items c.utf8.text c.in_ok-mark_whole.ensures.ok
