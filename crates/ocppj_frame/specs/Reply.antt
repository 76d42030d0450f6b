-- The texts of replies (OCPP 2.0.1 Part 4), without blanks.
use Rattle.std.{specs.Prelude.{ℕ, ◌/◌, ◌%◌, ◌==◌, ◌||◌, ◌&&◌, Bool, nat_lt, nat_le, List, [], ◌∷◌, ◌++◌, length, if◌then◌else◌, codes, encode_utf8}, specs.List.flat_map, specs.Char.digit_char, specs.Str.chars}
use Rattle.ocppj_frame.{specs.declared.body.Body.Body, specs.declared.body.Body.TheVariants.{Empty, TokenAccepted, Now, Boot}, specs.declared.error_code.ErrorCode.ErrorCode, specs.declared.error_code.ErrorCode.TheVariants.InternalError, specs.ErrorCode.code_name}

-- How many characters a text has: Unicode scalar values, not bytes.
abbrev pub character_count : List ℕ → ℕ
character_count text = length (chars text)

-- A character in a JSON string: `"` and `\` behind a `\`, one below 0x20 by its code, all others as they are.
abbrev pub escaped : ℕ → List ℕ
escaped c =
    if c == 34 || c == 92 then 92 ∷ c ∷ []
    else (if nat_lt c 32 then codes "\\u00" ++ (digit_char (c / 16) ∷ digit_char (c % 16) ∷ [])
    else encode_utf8 c)

-- A text as a JSON string (RFC 8259), in quotes.
abbrev pub json_string : List ℕ → List ℕ
json_string text = codes "\"" ++ (flat_map escaped (chars text) ++ codes "\"")

-- A HeartbeatResponse at a moment's text.
abbrev pub heartbeat : List ℕ → List ℕ
heartbeat now = codes "{\"currentTime\":\"" ++ (now ++ codes "\"}")

-- A BootNotificationResponse at a moment's text: accepted, with a heartbeat every 300 seconds.
abbrev pub boot : List ℕ → List ℕ
boot now = codes "{\"currentTime\":\"" ++ (now ++ codes "\",\"interval\":300,\"status\":\"Accepted\"}")

-- The payload of a CALLRESULT.
abbrev pub body_bytes : Body → List ℕ
body_bytes Empty = codes "{}"
body_bytes TokenAccepted = codes "{\"idTokenInfo\":{\"status\":\"Accepted\"}}"
body_bytes (Now now) = heartbeat now.bytes
body_bytes (Boot now) = boot now.bytes

-- A CALLRESULT with a payload: `[3,<id>,<payload>]`.
abbrev pub call_result : List ℕ → List ℕ → List ℕ
call_result id payload = codes "[3," ++ (json_string id ++ (codes "," ++ (payload ++ codes "]")))

-- The CALLRESULT of a body.
abbrev pub result_bytes : List ℕ → Body → List ℕ
result_bytes id body = call_result id (body_bytes body)

-- A CALLERROR: `[4,<id>,"<code>","<description>",{}]`.
abbrev pub error_bytes : List ℕ → ErrorCode → List ℕ → List ℕ
error_bytes id code description =
    codes "[4," ++ (json_string id ++ (codes ",\"" ++ (code_name code ++ (codes "\",\"" ++ (description ++ codes "\",{}]")))))

-- The CALLERROR that reports OutOfMemory while a text is read.
abbrev pub memory_bytes : List ℕ
memory_bytes = error_bytes (codes "-1") InternalError (codes "OutOfMemory")

-- A letter from A to Z or a to z.
abbrev pub is_letter : ℕ → Bool
is_letter c = (nat_le 65 c && nat_le c 90) || (nat_le 97 c && nat_le c 122)
