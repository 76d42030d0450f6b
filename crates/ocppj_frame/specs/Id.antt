use Rattle.std.specs.Prelude.{ℕ, List, nat_le, if◌then◌else◌, Option, Some, None}
use Rattle.ocppj_frame.{specs.Reply.character_count, specs.Ranges.longest_message_id}

-- The id of a message: a text no longer than an id may be (OCPP 2.0.1 Part 4).
abbrev pub message_id : List ℕ → Option (List ℕ)
message_id text = if nat_le (character_count text) longest_message_id then Some text else None
