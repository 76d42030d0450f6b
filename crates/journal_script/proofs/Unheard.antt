-- A text that is not read is answered, and asks for no delivery.
use Rattle.std.{proofs.Common.{◌≡◌, ℕ, Bool, true, false, List, Err, ltb, length, refl, ap}, specs.Prelude.⊤}
use Rattle.marked_json.{specs.declared.fault.JsonFault.JsonFault, specs.Reading.marked_reading}
use Rattle.ocppj_frame.{specs.Frame.{Frame, frame}, specs.Ranges.longest_message}
use Rattle.ocppj_frame.specs.Frame as framed
use Rattle.transaction_event.specs.Message.{Ready, meaning_of, message}

-- the text has one ready reply, at any moment
abbrev pub IsAnswered : List ℕ → Type 0
IsAnswered text = (reply : List ℕ) × ((now : ℕ) → message text now ≡ Ready reply)

abbrev IsReady : Frame → Type 0
IsReady (framed.Called id action payload) = ⊥
IsReady framed.Silence = ⊥
IsReady (framed.Ready reply) = ⊤

ready_reply : (f : Frame) → IsReady f → (reply : List ℕ) × (f ≡ framed.Ready reply)
ready_reply (framed.Called id action payload) ready = absurd ready
ready_reply framed.Silence ready = absurd ready
ready_reply (framed.Ready reply) ready = (reply, refl)

not_called : (text : List ℕ) (fault : JsonFault) → marked_reading text ≡ Err fault → (long : Bool) → ltb longest_message (length text) ≡ long → IsReady (frame text)
not_called text fault unread true is = rw is tt
not_called text fault unread false is = rw (is, unread) tt

pub answered_where_not_read : (text : List ℕ) → (fault : JsonFault) × (marked_reading text ≡ Err fault) → IsAnswered text
answered_where_not_read text (fault, unread) =
    let reply = ready_reply (frame text) (not_called text fault unread (ltb longest_message (length text)) refl) in
    (reply.0, λ now. ap (meaning_of now) reply.1)
