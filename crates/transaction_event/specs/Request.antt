-- What a TransactionEventRequest says (OCPP 2.0.1 Part 2, block E), with its members checked in
-- this order; the ranges are this product's profile.
use Rattle.std.{specs.Prelude.{ℕ, ◌-◌, Bool, List, pos, unsigned_abs, is_some, if◌then◌else◌, Option, Some, None, Ok, Err, codes}, specs.Option.ok_or, specs.Str.bytes_eq}
use Rattle.serde_json.specs.Data.{Data}
use Rattle.marked_json.specs.Reading.{text_of}
use Rattle.ledger_model.{specs.declared.kind.Kind.Kind, specs.declared.kind.Kind.TheVariants.{Started, Updated, Ended}, specs.Ranges.{sequence_end, greatest_evse}, specs.Key.KeyName, specs.Event.EventContent, specs.TxId.{is_tx_id, folded}}
use Rattle.transaction_event.{specs.declared.fault.PayloadFault.TheVariants.{Format, Range}, specs.Steps.{Checked, ◌>>=◌, checked_map}, specs.Member.{object_of, required, optional}, specs.Integer.required_integer, specs.Timestamp.timestamp, specs.MeterValues.meter_values}

-- The kind of that name.
abbrev pub kind_named : List ℕ → Checked Kind
kind_named name =
    if bytes_eq name (codes "Started") then Ok Started
    else (if bytes_eq name (codes "Updated") then Ok Updated
    else (if bytes_eq name (codes "Ended") then Ok Ended
    else Err Range))

-- The kind of an event.
unfoldable pub kind_of : Data → Checked Kind
kind_of request = required text_of (codes "eventType") request >>= kind_named

-- A transaction id, folded.
abbrev pub tx_named : List ℕ → Checked (List ℕ)
tx_named text = if is_tx_id text then Ok (folded text) else Err Range

-- The key of an event: its number, and then the id of its transaction.
unfoldable pub key_of : Data → Checked KeyName
key_of request = do
  seq ← required_integer (pos 0) (pos (sequence_end - 1)) (codes "seqNo") request
  info ← required object_of (codes "transactionInfo") request
  text ← required text_of (codes "transactionId") info
  tx ← tx_named text
  Ok (record { tx = tx; seq = unsigned_abs seq })

-- The number of an EVSE that is named.
abbrev pub evse_number : Option Data → Checked (Option ℕ)
evse_number None = Ok None
evse_number (Some evse) = checked_map (λ n. Some (unsigned_abs n)) (required_integer (pos 1) (pos greatest_evse) (codes "id") evse)

-- The EVSE of an event, if it names one.
unfoldable pub evse_of : Data → Checked (Option ℕ)
evse_of request = optional object_of (codes "evse") request >>= evse_number

-- Whether an id token is there; nothing in it is looked at.
unfoldable pub has_token : Data → Checked Bool
has_token request = checked_map is_some (optional object_of (codes "idToken") request)

-- A request: the event's key, the event, and whether an id token was there.
pub record Request : Type 0 where
  pub key : KeyName
  pub event : EventContent
  pub token : Bool

-- The request of an object; any text is a trigger reason.
unfoldable pub request_of : Data → Checked Request
request_of request = do
  kind ← kind_of request
  moment ← timestamp request
  reason ← required text_of (codes "triggerReason") request
  key ← key_of request
  evse ← evse_of request
  token ← has_token request
  readings ← meter_values request
  Ok (record { key = key; event = record { kind = kind; moment = moment; evse = evse; readings = readings }; token = token })

-- The request of a payload, or its first fault.
abbrev pub event_reading : Data → Checked Request
event_reading payload = ok_or (object_of payload) Format >>= request_of
