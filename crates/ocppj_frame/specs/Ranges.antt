-- How long texts of OCPP-J may be.
use Rattle.std.specs.Prelude.{ℕ}

-- How many bytes the text of a message may have (this product's profile).
abbrev pub longest_message : ℕ
longest_message = 262_144

-- How many characters the id of a message may have (OCPP 2.0.1 Part 4).
abbrev pub longest_message_id : ℕ
longest_message_id = 36
