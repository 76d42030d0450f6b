-- What a result of the reader says about the text.
use Rattle.std.specs.Prelude.{◌≡◌, ◌≤◌, ◌⊎◌, ◌↔◌, ℕ, Bool, List, IsTrue, true, false, ⊤, codes}
use Rattle.arrayvec.specs.ArrayString.{ArrayString}
use Rattle.ocppj_frame.{specs.declared.action.Action.TheVariants.TransactionEvent, specs.Reply.character_count, specs.Frame.{Frame, frame, Called}, specs.Ranges.longest_message_id}
use Rattle.transaction_event.{specs.declared.message.Message.Message, specs.declared.message.Asked.Asked, specs.declared.delivery.Delivery.Delivery, specs.Growth.PayloadGrows, specs.Reply.memory_reply}
use Rattle.transaction_event.specs.declared.message.Message.TheVariants as message
use Rattle.transaction_event.specs.declared.message.Asked.TheVariants as asked
use Rattle.transaction_event.specs.Message as meaning

-- The message that asks for a delivery.
abbrev pub asking : Delivery → Message
asking d = message.Event d.id d.key d.event d.token

-- The result, with the text from the caller's buffer if it is a ready reply.
abbrev pub with_reply : Asked → ArrayString → Message
with_reply (asked.Event delivery) reply = asking delivery
with_reply (asked.Reply memory) reply = message.Reply reply memory
with_reply asked.Silent reply = message.Silent

-- A reply that reports OutOfMemory. Its id is that of a call if the call's payload passes its
-- checks up to a counted reading that found no memory, or `-1` if the text itself found none.
abbrev pub IsMemoryReply : Frame → List ℕ → Type 0
IsMemoryReply (Called id TransactionEvent payload) reply = (reply ≡ memory_reply (codes "-1")) ⊎ ((reply ≡ memory_reply id) × PayloadGrows payload)
IsMemoryReply _ reply = reply ≡ memory_reply (codes "-1")

-- A reply is what the frame means at a moment, or it reports OutOfMemory.
abbrev pub Answers : ℕ → Frame → List ℕ → Bool → Type 0
Answers now frame reply false = meaning.meaning_of now frame ≡ meaning.Ready reply
Answers now frame reply true = IsMemoryReply frame reply

-- The result is what the frame means at a moment, or it reports OutOfMemory.
abbrev pub IsMeaningOfFrame : ℕ → Frame → Message → Type 0
IsMeaningOfFrame now frame (message.Event id key event token) =
    meaning.meaning_of now frame ≡ meaning.Event id.bytes (record { key = key; event = event; token = token })
IsMeaningOfFrame now frame (message.Reply text memory) = Answers now frame text.bytes memory
IsMeaningOfFrame now frame message.Silent = meaning.meaning_of now frame ≡ meaning.Silence

-- The result is what the text means at a moment, or it reports OutOfMemory.
abbrev pub IsMeaningOf : List ℕ → ℕ → Message → Type 0
IsMeaningOf text now answer = IsMeaningOfFrame now (frame text) answer

-- `memory` is true exactly if the reply to a frame reports OutOfMemory.
abbrev pub IsMemoryToldOfFrame : Frame → Message → Type 0
IsMemoryToldOfFrame frame (message.Event id key event token) = ⊤
IsMemoryToldOfFrame frame (message.Reply text memory) = IsTrue memory ↔ IsMemoryReply frame text.bytes
IsMemoryToldOfFrame frame message.Silent = ⊤

-- `memory` is true exactly if the reply to a text reports OutOfMemory.
abbrev pub IsMemoryTold : List ℕ → Message → Type 0
IsMemoryTold text answer = IsMemoryToldOfFrame (frame text) answer

-- The id of an event's call is no longer than it may be.
abbrev pub HasShortId : Message → Type 0
HasShortId (message.Event id key event token) = character_count id.bytes ≤ longest_message_id
HasShortId (message.Reply text memory) = ⊤
HasShortId message.Silent = ⊤

-- The reply reports OutOfMemory.
abbrev pub IsOutOfMemory : Message → Type 0
IsOutOfMemory (message.Event id key event token) = ⊥
IsOutOfMemory (message.Reply text memory) = IsTrue memory
IsOutOfMemory message.Silent = ⊥
