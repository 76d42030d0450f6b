-- What changes with one transaction's live events.
use Rattle.std.{specs.Prelude.{◌≡◌, ℕ, ◌+◌, ◌-◌, ◌*◌, ◌<◌, ◌≤◌, ◌^◌, ◌==◌, false, unwrap_or, slice_get, if◌then◌else◌, List, Option, None, Some, length, count_by, sum_by}, specs.Str.bytes_eq}
use Rattle.energy_flow.specs.Flow.{Energy, plus}
use Rattle.ledger_model.{specs.declared.reading.Direction.Direction, specs.Complete.is_complete, specs.Content.{Entry, live, live_of, transactions_of}, specs.declared.order.Order.Order, specs.Evse.{energy_at_by, flows_at_by, transactions_at}, specs.ByDirection.{in_direction, no_flows, plus_flows, minus_flows, CanPlusFlows, CanMinusFlows}, specs.declared.by_direction.ByDirection.ByDirection, specs.Energy.{energy_by, energy_of_by}, specs.Ranges.{greatest_reading, most_readings}, specs.Gaps.{numbers_of, missing}, specs.declared.figures.Figures.Figures}
use Rattle.station_ledger.{specs.declared.totals.EvseSum.EvseSum, specs.declared.standing.Standing.Standing, specs.Standing.kept_of}

-- The part of a transaction in the figures; nothing if it has no live event.
abbrev pub live_in : Option Standing → ℕ
live_in None = 0
live_in (Some s) = s.live

abbrev pub one_in : Option Standing → ℕ
one_in None = 0
one_in (Some s) = 1

abbrev pub complete_in : Option Standing → ℕ
complete_in None = 0
complete_in (Some s) = if s.complete then 1 else 0

abbrev pub missing_in : Option Standing → ℕ
missing_in None = 0
missing_in (Some s) = s.missing

-- Its energies.
abbrev pub flows_in : Option Standing → ByDirection Energy
flows_in None = no_flows
flows_in (Some s) = s.energy

-- Whether it counts at an EVSE: 1 or 0.
abbrev pub one_at : ℕ → Option Standing → ℕ
one_at n None = 0
one_at n (Some s) = if s.evse == n then 1 else 0

-- Its energies at an EVSE.
abbrev pub flows_at : ℕ → Option Standing → ByDirection Energy
flows_at n None = no_flows
flows_at n (Some s) = if s.evse == n then s.energy else no_flows

-- The live events of one transaction changed: those of no other did, and each sum changed by that
-- transaction's part, with readings in the given order.
pub record IsMoved (order : Order) (tx : List ℕ) (es new : List Entry) : Type 0 where
  pub others : (u : List ℕ) → bytes_eq u tx ≡ false → live_of u new ≡ live_of u es
  pub events : length (live new) + live_in (kept_of order tx es) ≡ length (live es) + live_in (kept_of order tx new)
  pub transactions : length (transactions_of (live new)) + one_in (kept_of order tx es) ≡ length (transactions_of (live es)) + one_in (kept_of order tx new)
  pub complete : count_by (λ u. is_complete u new) (transactions_of (live new)) + complete_in (kept_of order tx es)
      ≡ count_by (λ u. is_complete u es) (transactions_of (live es)) + complete_in (kept_of order tx new)
  pub missing_are : sum_by (λ u. missing (numbers_of u new)) (transactions_of (live new)) + missing_in (kept_of order tx es)
      ≡ sum_by (λ u. missing (numbers_of u es)) (transactions_of (live es)) + missing_in (kept_of order tx new)
  pub at_evse : (n : ℕ) → length (transactions_at n new) + one_at n (kept_of order tx es) ≡ length (transactions_at n es) + one_at n (kept_of order tx new)
  pub flow_at_evse : (d : Direction) (n : ℕ) → plus (energy_at_by order d n new) (in_direction d (flows_at n (kept_of order tx es))) ≡ plus
      (energy_at_by order d n es) (in_direction d (flows_at n (kept_of order tx new)))

-- An EVSE without transactions.
abbrev pub no_sum : EvseSum
no_sum = record { transactions = 0; energy = no_flows }

-- The sum of an EVSE among those of all, by its number.
abbrev pub sum_at : List EvseSum → ℕ → EvseSum
sum_at sums n = unwrap_or (slice_get sums n) no_sum

-- The sum of an EVSE from scratch, with readings in the given order.
abbrev pub evse_sum : Order → ℕ → List Entry → EvseSum
evse_sum order n es = record { transactions = length (transactions_at n es); energy = flows_at_by order n es }

-- The sum of an EVSE with the part of a transaction added.
abbrev pub with_one : ℕ → Option Standing → EvseSum → EvseSum
with_one n o sum = record { transactions = sum.transactions + one_at n o; energy = plus_flows sum.energy (flows_at n o) }

-- The sum of an EVSE with that part taken away.
abbrev pub without_one : ℕ → Option Standing → EvseSum → EvseSum
without_one n o sum = record { transactions = sum.transactions - one_at n o; energy = minus_flows sum.energy (flows_at n o) }

-- There is room for the part of a transaction at an EVSE.
pub record HasRoomAt (n : ℕ) (o : Option Standing) (sum : EvseSum) : Type 0 where
  pub number : sum.transactions + one_at n o < 2 ^ 32
  pub energy : CanPlusFlows sum.energy (flows_at n o)

-- The sum of an EVSE includes the part of a transaction.
pub record CountsAt (n : ℕ) (o : Option Standing) (sum : EvseSum) : Type 0 where
  pub number : one_at n o ≤ sum.transactions
  pub energy : CanMinusFlows sum.energy (flows_at n o)

-- The figures with the part of a transaction added, its energy apart.
abbrev pub with_figures : Option Standing → Figures → Figures
with_figures o f = record f { events = f.events + live_in o; transactions = f.transactions + one_in o; complete = f.complete + complete_in o; missing = f.missing + missing_in o }

-- The figures with that part taken away.
abbrev pub without_figures : Option Standing → Figures → Figures
without_figures o f = record f { events = f.events - live_in o; transactions = f.transactions - one_in o; complete = f.complete - complete_in o; missing = f.missing - missing_in o }

-- There is room in the figures for the part of a transaction.
pub record HaveRoom (o : Option Standing) (f : Figures) : Type 0 where
  pub events : f.events + live_in o < 2 ^ 64
  pub transactions : f.transactions + one_in o < 2 ^ 64
  pub complete : f.complete + complete_in o < 2 ^ 64
  pub missing_fit : f.missing + missing_in o < 2 ^ 64

-- The figures include the part of a transaction.
pub record DoCount (o : Option Standing) (f : Figures) : Type 0 where
  pub events : live_in o ≤ f.events
  pub transactions : one_in o ≤ f.transactions
  pub complete : complete_in o ≤ f.complete
  pub missing_fit : missing_in o ≤ f.missing

-- What came may be added to energies, and what went taken from the result.
pub record CanExchange (energies less more : ByDirection Energy) : Type 0 where
  pub room : CanPlusFlows energies more
  pub holds : CanMinusFlows (plus_flows energies more) less

-- The energies that went and came, of a station and of one of its transactions, in each direction.
pub record IsExchanged (order : Order) (tx : List ℕ) (es new : List Entry) (less more : ByDirection Energy) : Type 0 where
  pub station : (d : Direction) → plus (energy_by order d new) (in_direction d less) ≡ plus (energy_by order d es) (in_direction d more)
  pub own : (d : Direction) → plus (energy_of_by order d tx new) (in_direction d less) ≡ plus (energy_of_by order d tx es) (in_direction d more)
  pub up_few : (d : Direction) → (in_direction d more).up ≤ greatest_reading * most_readings
  pub down_few : (d : Direction) → (in_direction d more).down ≤ greatest_reading * most_readings
