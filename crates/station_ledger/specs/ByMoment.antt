-- The live readings of a station by moment.
use Rattle.std.{specs.Prelude.{◌≡◌, ◌==◌, ℕ, ◌+◌, ◌≤◌, Bool, true, false, not, is_some, nat_lt, List, [], ◌∷◌, Option, None, Some, if◌then◌else◌, length, option_map, sum_by, vec_capacity}, specs.List.flat_map, specs.Str.bytes_eq}
use Rattle.event_chain.{specs.Chains.Chained, specs.declared.row.TableRow.TableRow, specs.Table.{IsFresh, Table, row_of}}
use Rattle.ledger_model.{specs.declared.reading.Direction.Direction, specs.Content.{Entry, live, live_of, transactions_of}, specs.Event.{MeterReading, toward}, specs.InTime.{in_time, put_in_time}, specs.Key.KeyName, specs.Limits.Bounds, specs.Ranges.most_event_readings}
use Rattle.reading_index.{specs.Ranks.{owner, rank}, specs.Timed.{Timed, AreRising, has_rank, owned, without}}
pub use Rattle.reading_index.specs.Timed.{bare}
use Rattle.station_ledger.{specs.declared.by_moment.ByMoment.ByMoment, specs.Quarters.readings_at}

-- Readings of an event in one direction, in the order sent, each with its rank: by owner, moment,
-- the event's number, and place, beginning at the given place.
abbrev pub ranked_from : ℕ → ℕ → ℕ → List MeterReading → List Timed
ranked_from o number place [] = []
ranked_from o number place (r ∷ rs) = (rank o r.moment number place, r) ∷ ranked_from o number (place + 1) rs

-- The readings of an event in one direction, each with its rank.
abbrev pub ranked : ℕ → Direction → Entry → List Timed
ranked slot d e = ranked_from (owner slot d) e.0.seq 0 (toward d e.1.event.readings)

-- The readings of a transaction in one direction, by rank.
abbrev pub timed_of : ℕ → Direction → List ℕ → List Entry → List Timed
timed_of slot d tx es = in_time (λ t. t.0) (flat_map (ranked slot d) (live_of tx es))

-- Readings put in one after the other, each at the place of its rank.
abbrev pub put_each : List Timed → List Timed → List Timed
put_each [] ts = ts
put_each (x ∷ xs) ts = put_each xs (put_in_time (λ t. t.0) x ts)

-- Readings taken out one after the other.
abbrev pub take_each : List Timed → List Timed → List Timed
take_each [] ts = ts
take_each (x ∷ xs) ts = take_each xs (without x.0 ts)

-- How many readings the live events have.
abbrev pub live_readings : List Entry → ℕ
live_readings es = sum_by (λ e. length e.1.event.readings) (live es)

-- A reading comes in front of another, or there is no other.
abbrev pub fits : Option Timed → Timed → Bool
fits None x = true
fits (Some a) x = nat_lt x.0 a.0

-- The first readings of a list that come in front of another, and those behind them.
abbrev pub fitting : Option Timed → List Timed → List Timed
fitting a [] = []
fitting a (x ∷ xs) = if fits a x then x ∷ fitting a xs else []

abbrev pub beyond : Option Timed → List Timed → List Timed
beyond a [] = []
beyond a (x ∷ xs) = if fits a x then beyond a xs else x ∷ xs

-- A reading with a rank, without it.
abbrev pub bare_one : Option Timed → Option MeterReading
bare_one o = option_map (λ t. t.1) o

-- Each reading may be put in behind those before it: none has its rank.
abbrev pub ArePuttable : List Timed → List Timed → Type 0
ArePuttable [] ts = Unit {0}
ArePuttable (x ∷ xs) ts = (has_rank x.0 ts ≡ false) × ArePuttable xs (put_in_time (λ t. t.0) x ts)

-- The readings in a direction of the event of a key, by rank under a slot.
abbrev pub listed_of : ℕ → Direction → Chained → KeyName → List Timed
listed_of slot d chains key = put_each (ranked_from (owner slot d) key.seq 0 (readings_at d chains key)) []

-- Each transaction with a live event has a slot, and no other.
pub record AreSlots (limits : Bounds) (es : List Entry) (slots : Table) : Type 0 where
  pub each : (tx : List ℕ) → is_some (row_of tx slots.rows) ≡ not (length (live_of tx es) == 0)
  pub number : length slots.rows ≡ length (transactions_of (live es))
  pub room : slots.capacity ≡ limits.transactions

-- The index has the live readings: under each slot those of its transaction, by rank, and none under a free slot.
pub record AreByMoment (limits : Bounds) (es : List Entry) (b : ByMoment) : Type 0 where
  pub slots : AreSlots limits es b.slots
  pub held : (d : Direction) (tx : List ℕ) (row : TableRow) → row_of tx b.slots.rows ≡ Some row → owned (owner row.slot d) b.index.entries ≡ timed_of row.slot d tx es
  pub spare : (d : Direction) (slot : ℕ) → IsFresh slot b.slots.rows → owned (owner slot d) b.index.entries ≡ []
  pub in_order : AreRising b.index.entries
  pub few : length b.index.entries ≤ live_readings es
  pub room : b.index.capacity ≡ limits.readings
  pub list_room : most_event_readings ≤ vec_capacity b.listed

-- A transaction has this slot, from before or new; the slots of others are as they were.
pub record IsSlotGiven (tx : List ℕ) (old new : Table) (slot : ℕ) : Type 0 where
  pub row : TableRow
  pub there : row_of tx new.rows ≡ Some row
  pub is : row.slot ≡ slot
  pub others : (u : List ℕ) → bytes_eq u tx ≡ false → row_of u new.rows ≡ row_of u old.rows
  pub kept : (was : TableRow) → row_of tx old.rows ≡ Some was → was.slot ≡ slot
  pub fresh : row_of tx old.rows ≡ None → IsFresh slot old.rows
  pub number : length new.rows ≡ (if is_some (row_of tx old.rows) then length old.rows else length old.rows + 1)
  pub capacity : new.capacity ≡ old.capacity
