-- Live readings that repeat others of their transaction.
use Rattle.std.{specs.Prelude.{◌≡◌, ℕ, false, List, ◌∷◌, ◌++◌, None, All}, specs.FinMap.find}
use Rattle.ledger_model.{specs.Periods.Periods, specs.declared.order.Order.TheVariants.Moment, specs.declared.reading.Direction.Direction, specs.Content.{Entry, live}, specs.Deltas.IsOneMore, specs.Energy.{energy_by, energy_in_by, energy_of_by, readings_by}, specs.Entries.IsRising, specs.Event.{EventContent, MeterReading}, specs.Key.{key_cmp, KeyName}, specs.ReadingOrder.IsRepeat}

-- Each of these readings repeats live readings of the transaction in its direction: some have its moment, and all that
-- have it show its level.
abbrev pub AreRepeats : List ℕ → List Entry → List MeterReading → Type 0
AreRepeats tx es rs = All (λ r. IsRepeat r (readings_by Moment r.direction tx es)) rs

-- The second entries have one more live event, and each of its readings repeats others of its transaction.
pub record IsOneMoreOfRepeats (es more : List Entry) (e : Entry) : Type 0 where
  pub front : List Entry
  pub back : List Entry
  pub one_more : IsOneMore es more front e back
  pub repeats : AreRepeats e.0.tx es e.1.event.readings

-- The event brings readings that all repeat others of its transaction, under a key that holds no event.
pub record BringsRepeats (es : List Entry) (key : KeyName) (event : EventContent) : Type 0 where
  pub rising : IsRising es
  pub new : find key_cmp key es ≡ None
  pub repeats : AreRepeats key.tx es event.readings

-- The second entries have these additional readings, in a row in one live event.
pub record AreReadingsMore (es more : List Entry) (key : KeyName) (rs : List MeterReading) : Type 0 where
  pub front : List Entry
  pub back : List Entry
  pub event : EventContent
  pub first : List MeterReading
  pub last : List MeterReading
  pub readings : event.readings ≡ first ++ last
  pub less_live : live es ≡ front ++ (key, record { event = event; voided = false }) ∷ back
  pub more_live : live more ≡ front ++ (key, record { event = record event { readings = first ++ (rs ++ last) }; voided = false }) ∷ back

-- The second entries have the same energies by moment as the first: of each transaction and each period, and of the
-- station.
pub record HaveSameSums (d : Direction) (es more : List Entry) : Type 0 where
  pub transaction : (tx : List ℕ) → energy_of_by Moment d tx more ≡ energy_of_by Moment d tx es
  pub quarter : (period : Periods) (q : ℕ) → energy_in_by Moment d period q more ≡ energy_in_by Moment d period q es
  pub station : energy_by Moment d more ≡ energy_by Moment d es
