-- The members of a TransactionEventRequest (OCPP 2.0.1 Part 2, block E), found in its payload.
use Rattle.std.specs.Prelude.{◌≡◌, option_map, codes}
use Rattle.serde_json.specs.Data.{Data}
use Rattle.marked_json.specs.Reading.{node, field_of}
use Rattle.transaction_event.specs.declared.request_members.RequestMembers.{RequestMembers}

-- The request that has those members.
abbrev pub request_with : RequestMembers → Data
request_with members = node members.request

-- Each member is the one that the request has.
pub record AreFound (members : RequestMembers) : Type 0 where
  pub has_type : option_map node members.event_type ≡ field_of (codes "eventType") (request_with members)
  pub has_timestamp : option_map node members.timestamp ≡ field_of (codes "timestamp") (request_with members)
  pub has_reason : option_map node members.trigger_reason ≡ field_of (codes "triggerReason") (request_with members)
  pub has_number : option_map node members.seq_no ≡ field_of (codes "seqNo") (request_with members)
  pub has_info : option_map node members.transaction_info ≡ field_of (codes "transactionInfo") (request_with members)
  pub has_evse : option_map node members.evse ≡ field_of (codes "evse") (request_with members)
  pub has_token : option_map node members.id_token ≡ field_of (codes "idToken") (request_with members)
  pub has_values : option_map node members.meter_value ≡ field_of (codes "meterValue") (request_with members)
