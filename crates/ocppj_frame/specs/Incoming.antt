-- What a result of the reader says about the text.
use Rattle.std.specs.Prelude.{◌≡◌, ◌↔◌, IsTrue, true, false, ⊤}
use Rattle.arrayvec.specs.ArrayString.{ArrayString}
use Rattle.ocppj_frame.{specs.declared.incoming.Incoming.Incoming, specs.declared.incoming.Framed.Framed, specs.Reply.memory_bytes, specs.Frame.{Frame, Called, Silence, Ready}, specs.Call.{id_of, action_of, payload_of}}
use Rattle.ocppj_frame.specs.declared.incoming.Incoming.TheVariants as incoming
use Rattle.ocppj_frame.specs.declared.incoming.Framed.TheVariants as framed

-- The result, with the text from the caller's buffer if it is a ready reply.
abbrev pub with_reply : Framed → ArrayString → Incoming
with_reply (framed.Call call) reply = incoming.Call call
with_reply framed.Silent reply = incoming.Silent
with_reply (framed.Reply memory) reply = incoming.Reply reply memory

-- The result is what the text asks for, or it reports OutOfMemory.
abbrev pub Reads : Frame → Incoming → Type 0
Reads frame (incoming.Call call) = frame ≡ Called (id_of call) (action_of call) (payload_of call)
Reads frame incoming.Silent = frame ≡ Silence
Reads frame (incoming.Reply text false) = frame ≡ Ready text.bytes
Reads frame (incoming.Reply text true) = text.bytes ≡ memory_bytes

-- `memory` is true exactly if the reply is the one that reports OutOfMemory.
abbrev pub IsMemoryTold : Incoming → Type 0
IsMemoryTold (incoming.Call call) = ⊤
IsMemoryTold incoming.Silent = ⊤
IsMemoryTold (incoming.Reply text memory) = IsTrue memory ↔ (text.bytes ≡ memory_bytes)

-- The result reports OutOfMemory.
abbrev pub IsOutOfMemory : Incoming → Type 0
IsOutOfMemory (incoming.Call call) = ⊥
IsOutOfMemory incoming.Silent = ⊥
IsOutOfMemory (incoming.Reply text memory) = IsTrue memory

-- The result is a call.
abbrev pub IsCall : Incoming → Type 0
IsCall (incoming.Call call) = ⊤
IsCall incoming.Silent = ⊥
IsCall (incoming.Reply text memory) = ⊥
