use Rattle.std.{proofs.Common.{◌≤◌, codes, lit≤}, specs.Str.chars}
use Rattle.ocppj_frame.{specs.Reply.character_count, specs.Ranges.longest_message_id}
use Rattle.ocppj_frame.proofs.message_id.FrameId.unknown.Goals as goal

-- `-1` is two characters
unknown-short : character_count (codes "-1") ≤ longest_message_id
unfolding chars
unknown-short = lit≤ tt

pub invariant_of-result : goal.invariant_of-result
invariant_of-result c = unknown-short
