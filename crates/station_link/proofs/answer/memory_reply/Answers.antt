use Rattle.std.{proofs.Common.{◌≤◌, codes, lit≤}, specs.Str.chars}
use Rattle.ocppj_frame.{specs.Reply.character_count, specs.Ranges.longest_message_id}
use Rattle.station_link.proofs.answer.memory_reply.Goals as goal

-- `-1` is two characters
is_short : character_count (codes "-1") ≤ longest_message_id
unfolding chars
is_short = lit≤ tt

pub error_text-requires-clause-id : goal.error_text-requires-clause-id
error_text-requires-clause-id c = is_short
