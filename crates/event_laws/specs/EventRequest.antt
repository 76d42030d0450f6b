-- TransactionEventRequest (OCPP 2.0.1 Part 2, block E) as a grammar on the tree that a payload is read into: which
-- members it has, and which event they are. Members may come in any order; others are not looked at. That any text is a
-- trigger reason, and the ranges of numbers and ids, are this product's profile.
use Rattle.std.specs.Prelude.{◌≡◌, ◌⊎◌, ◌≤◌, ℕ, Bool, true, false, List, [], Option, None, Some, All, length, pos, codes}
use Rattle.serde_json.specs.Data.{Data}
use Rattle.marked_json.specs.Reading.{is_object, items_of, text_of}
use Rattle.ledger_model.{specs.Event.MeterReading, specs.TxId.folded, specs.declared.kind.Kind.Kind, specs.declared.kind.Kind.TheVariants.{Started, Updated, Ended}}
use Rattle.ocppj_frame.{specs.Message.IsCall, specs.declared.action.Action.TheVariants.TransactionEvent}
use Rattle.transaction_event.specs.Request.{Request}
use Rattle.event_laws.{specs.Members.{Has, HasInteger, HasObject, Lacks}, specs.Samples.{AreMeterValues, HasTime}}

-- TransactionEventEnumType.
abbrev pub type_name : Kind → List ℕ
type_name Started = codes "Started"
type_name Updated = codes "Updated"
type_name Ended = codes "Ended"

-- A transaction id: 1 to 36 characters, each visible ASCII.
pub record IsTransactionId (text : List ℕ) : Type 0 where
  pub some : 1 ≤ length text
  pub short : length text ≤ 36
  pub visible : All (λ c. (33 ≤ c) × (c ≤ 126)) text

-- `seqNo` is this integer, from 0 to 2,147,483,647.
pub record HasNumber (tree : Data) (seq : ℕ) : Type 0 where
  pub there : HasInteger (codes "seqNo") tree (pos seq)
  pub most : seq ≤ 2_147_483_647

-- `transactionInfo` is an object with `transactionId`. Ids are compared without case, so A to Z are taken as a to z.
pub record HasTransaction (tree : Data) (tx : List ℕ) : Type 0 where
  pub info : Data
  pub text : List ℕ
  pub has_info : HasObject (codes "transactionInfo") tree info
  pub has_id : Has text_of (codes "transactionId") info text
  pub valid : IsTransactionId text
  pub is : tx ≡ folded text

-- `evse` is an object with `id`, an integer from 1 to 64.
pub record NamesEvse (tree : Data) (number : ℕ) : Type 0 where
  pub evse : Data
  pub has_evse : HasObject (codes "evse") tree evse
  pub has_number : HasInteger (codes "id") evse (pos number)
  pub least : 1 ≤ number
  pub most : number ≤ 64

-- `evse` may be absent.
abbrev pub MayNameEvse : Data → Option ℕ → Type 0
MayNameEvse tree None = Lacks (codes "evse") tree
MayNameEvse tree (Some number) = NamesEvse tree number

-- Whether `idToken` is there: an object that is not looked into.
abbrev pub HasToken : Data → Bool → Type 0
HasToken tree false = Lacks (codes "idToken") tree
HasToken tree true = (token : Data) × HasObject (codes "idToken") tree token

-- `meterValue` is an array of meter values with these readings; without it there are none.
abbrev pub HasReadings : Data → List MeterReading → Type 0
HasReadings tree rs = (Lacks (codes "meterValue") tree × (rs ≡ []))
    ⊎ ((elements : List Data) × Has items_of (codes "meterValue") tree elements × AreMeterValues elements rs)

-- The payload of a TransactionEventRequest, and the event that it means.
pub record IsEventRequest (payload : Data) (r : Request) : Type 0 where
  pub object : is_object payload ≡ true
  pub event_type : Has text_of (codes "eventType") payload (type_name r.event.kind)
  pub time : HasTime payload r.event.moment
  pub reason : (text : List ℕ) × Has text_of (codes "triggerReason") payload text
  pub number : HasNumber payload r.key.seq
  pub transaction : HasTransaction payload r.key.tx
  pub evse : MayNameEvse payload r.event.evse
  pub token : HasToken payload r.token
  pub readings : HasReadings payload r.event.readings
  pub few : length r.event.readings ≤ 1_024

-- A text is the call of an event: a CALL of the action TransactionEvent with such a payload.
pub record IsEventCall (text id : List ℕ) (r : Request) : Type 0 where
  pub payload : Data
  pub call : IsCall text id TransactionEvent payload
  pub request : IsEventRequest payload r
