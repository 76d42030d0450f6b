-- What a text of OCPP-J asks for: CALL is `[2,<id>,<action>,<payload>]`, CALLRESULT `[3,..]`, CALLERROR `[4,..]`
-- (OCPP 2.0.1 Part 4). The order of the checks and the replies are this product's profile.
use Rattle.std.{specs.Prelude.{ℕ, ◌||◌, not, nat_lt, List, [], ◌∷◌, length, if◌then◌else◌, Option, Some, None, option_and_then, unwrap_or, slice_get, Result, Ok, Err, codes}, specs.Str.bytes_eq}
use Rattle.serde_json.specs.Data.{Data, null}
use Rattle.marked_json.{specs.Reading.{marked_reading, text_of, number_of, items_of, is_object}, specs.declared.fault.JsonFault.JsonFault}
use Rattle.ocppj_frame.{specs.declared.action.Action.Action, specs.declared.frame_fault.FrameFault.FrameFault, specs.declared.frame_fault.FrameFault.TheVariants.{TextTooLong, NotJson, NotACall, MessageType, UnknownAction, Format}, specs.Reply.error_bytes, specs.Action.action_of, specs.Id.message_id, specs.FrameFault.{fault_code, fault_name}, specs.Ranges.longest_message}

-- A call with its id, action and payload; or silence; or a ready reply.
pub data Frame : Type 0 where
  Called : List ℕ → Action → Data → Frame
  Silence : Frame
  Ready : List ℕ → Frame

-- The CALLERROR that reports a fault; its id is `-1` if there is none.
abbrev pub refused : Option (List ℕ) → FrameFault → Frame
refused id fault = Ready (error_bytes (unwrap_or id (codes "-1")) (fault_code fault) (fault_name fault))

-- An element as an id: a text no longer than an id may be.
abbrev pub id_of : Data → Option (List ℕ)
id_of element = option_and_then message_id (text_of element)

-- A call of a known action must have an object as its payload.
abbrev pub with_action : List ℕ → Option Action → Data → Frame
with_action id None payload = refused (Some id) UnknownAction
with_action id (Some action) payload = if not (is_object payload) then refused (Some id) Format else Called id action payload

-- A call must have a text as its action.
abbrev pub with_name : List ℕ → Option (List ℕ) → Data → Frame
with_name id None payload = refused (Some id) NotACall
with_name id (Some name) payload = with_action id (action_of name) payload

-- A call has four elements and an id; these are its last two elements.
abbrev pub with_id : Option (List ℕ) → List Data → Frame
with_id None rest = refused None NotACall
with_id (Some id) [] = refused (Some id) NotACall
with_id (Some id) (_ ∷ []) = refused (Some id) NotACall
with_id (Some id) (action ∷ payload ∷ []) = with_name id (text_of action) payload
with_id (Some id) (_ ∷ _ ∷ _ ∷ _) = refused (Some id) NotACall

-- A frame's type is a number; 3 and 4 are answers, which get no reply, and 2 is a call.
abbrev pub with_type : Option (List ℕ) → Option (List ℕ) → List Data → Frame
with_type None id rest = refused id NotACall
with_type (Some token) id rest =
    if bytes_eq token (codes "3") || bytes_eq token (codes "4") then Silence
    else (if not (bytes_eq token (codes "2")) then refused id MessageType
    else with_id id rest)

-- The elements of a frame: its type, its id, and the rest.
abbrev pub frame_of : List Data → Frame
frame_of [] = refused None NotACall
frame_of (kind ∷ []) = with_type (number_of kind) None []
frame_of (kind ∷ id ∷ rest) = with_type (number_of kind) (id_of id) rest

-- The elements of an array; other values have none.
abbrev pub elements_of : Data → List Data
elements_of tree = unwrap_or (items_of tree) []

-- A frame is JSON.
abbrev pub frame_read : Result Data JsonFault → Frame
frame_read (Err _) = refused None NotJson
frame_read (Ok tree) = frame_of (elements_of tree)

-- What a text asks for. A text that is longer than a message may be is refused.
abbrev pub frame : List ℕ → Frame
frame text = if nat_lt longest_message (length text) then refused None TextTooLong else frame_read (marked_reading text)

-- The fourth element; `null` if there is none.
abbrev pub payload_in : List Data → Data
payload_in elements = unwrap_or (slice_get elements 3) null
