-- What a station's text means at a moment (OCPP 2.0.1 Part 4). A lack of memory is no part of it.
use Rattle.std.specs.Prelude.{ℕ, List, Ok, Err}
use Rattle.serde_json.specs.Data.{Data}
use Rattle.ocppj_frame.{specs.declared.action.Action.Action, specs.declared.action.Action.TheVariants.{BootNotification, Heartbeat, StatusNotification, MeterValues, TransactionEvent}, specs.declared.body.Body.TheVariants.Empty, specs.Reply.{call_result, heartbeat, boot, result_bytes}, specs.Frame.{Frame, frame}}
use Rattle.ocppj_frame.specs.Frame as framed
use Rattle.reading_decimal.specs.MomentText.{text_of}
use Rattle.transaction_event.{specs.Steps.Checked, specs.Request.{Request, event_reading}, specs.Reply.fault_reply}

-- An event to deliver, with the id of its call; or a ready reply; or silence.
pub data Meaning : Type 0 where
  Event : List ℕ → Request → Meaning
  Ready : List ℕ → Meaning
  Silence : Meaning

-- What a TransactionEventRequest means: the event, or the reply that reports its first fault.
abbrev pub event_or_fault : List ℕ → Checked Request → Meaning
event_or_fault id (Ok request) = Event id request
event_or_fault id (Err fault) = Ready (fault_reply id fault)

-- What a call of an action means.
abbrev pub called : ℕ → List ℕ → Action → Data → Meaning
called now id BootNotification payload = Ready (call_result id (boot (text_of now)))
called now id Heartbeat payload = Ready (call_result id (heartbeat (text_of now)))
called now id StatusNotification payload = Ready (result_bytes id Empty)
called now id MeterValues payload = Ready (result_bytes id Empty)
called now id TransactionEvent payload = event_or_fault id (event_reading payload)

-- What a frame means.
abbrev pub meaning_of : ℕ → Frame → Meaning
meaning_of now (framed.Called id action payload) = called now id action payload
meaning_of now framed.Silence = Silence
meaning_of now (framed.Ready reply) = Ready reply

-- What a text means at a moment.
abbrev pub message : List ℕ → ℕ → Meaning
message text now = meaning_of now (frame text)
