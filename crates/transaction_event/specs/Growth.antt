-- Where the readings of a request need more memory: at a counted reading, after all checks before it passed.
use Rattle.std.specs.Prelude.{◌≡◌, ◌⊎◌, ℕ, List, [], ◌∷◌, ◌++◌, Some, Ok, IsOk, codes}
use Rattle.serde_json.specs.Data.{Data}
use Rattle.marked_json.specs.Reading.{text_of, items_of}
use Rattle.ledger_model.specs.Event.{MeterReading}
use Rattle.transaction_event.{specs.Steps.Checked, specs.Member.{object_of, required, optional}, specs.Timestamp.timestamp, specs.Sampled.sample, specs.MeterValues.meter_value, specs.Request.{kind_of, key_of, evse_of, has_token}}

-- `step` takes items in turn; one of them needs more memory, and all before it pass.
abbrev pub GrowsAmong : {A B : Type 0} → (B → A → Checked B) → (B → A → Type 0) → B → List A → Type 0
GrowsAmong step Grows so_far [] = ⊥
GrowsAmong {A} {B} step Grows so_far (item ∷ items) =
    Grows so_far item ⊎ ((next : B) × ((step so_far item ≡ Ok next) × GrowsAmong step Grows next items))

-- A sampled value passes its checks and is one more reading.
abbrev pub SampleGrows : ℕ → List MeterReading → Data → Type 0
SampleGrows moment so_far value = (reading : MeterReading) × (sample moment so_far value ≡ Ok (so_far ++ reading ∷ []))

-- A meter value has such a sampled value, and the checks before it pass.
pub record MeterValueGrows (so_far : List MeterReading) (element : Data) : Type 0 where
  pub meter : Data
  pub moment : ℕ
  pub values : List Data
  pub is_object : object_of element ≡ Some meter
  pub has_timestamp : timestamp meter ≡ Ok moment
  pub has_values : required items_of (codes "sampledValue") meter ≡ Ok values
  pub grows : GrowsAmong (sample moment) (SampleGrows moment) so_far values

-- The meter values of a request have such a sampled value.
pub record MeterValuesGrow (request : Data) : Type 0 where
  pub elements : List Data
  pub has_elements : optional items_of (codes "meterValue") request ≡ Ok (Some elements)
  pub grows : GrowsAmong meter_value MeterValueGrows [] elements

-- A request passes the checks before its meter values, which have such a sampled value.
pub record RequestGrows (request : Data) : Type 0 where
  pub has_kind : IsOk (kind_of request)
  pub has_timestamp : IsOk (timestamp request)
  pub has_reason : IsOk (required text_of (codes "triggerReason") request)
  pub has_key : IsOk (key_of request)
  pub names_evse : IsOk (evse_of request)
  pub has_token : IsOk (has_token request)
  pub readings : MeterValuesGrow request

-- A payload is an object and such a request.
abbrev pub PayloadGrows : Data → Type 0
PayloadGrows payload = (request : Data) × ((object_of payload ≡ Some request) × RequestGrows request)
