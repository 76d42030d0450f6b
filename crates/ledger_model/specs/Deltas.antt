-- What one more live event changes.
use Rattle.std.{specs.Prelude.{Bool, if◌then◌else◌, ◌≡◌, ℕ, zero, suc, ◌+◌, ◌-◌, not, List, [], ◌∷◌, ◌++◌, Option, None, Some, filter, length, slice_get}, specs.List.flat_map, specs.Ordering.is_lt, specs.Str.bytes_eq}
use Rattle.energy_flow.specs.Flow.{Energy, no_energy}
use Rattle.ledger_model.{specs.declared.reading.Direction.Direction, specs.Event.{MeterReading, toward}, specs.Key.{KeyName, key_cmp}, specs.Content.{Entry, live, transactions_of}, specs.Energy.{Pair, followed, pairs, pairs_of}}

-- The pair of two readings, if both are there.
abbrev pub across : Option MeterReading → Option MeterReading → List Pair
across None after = []
across (Some a) None = []
across (Some a) (Some b) = (a, b) ∷ []

-- The pairs of readings in a row, with the reading before them and the one after them.
abbrev pub pairs_between : Option MeterReading → List MeterReading → Option MeterReading → List Pair
pairs_between before [] after = across before after
pairs_between before (r ∷ rs) after = across before (Some r) ++ pairs_between (Some r) rs after

-- The first reading.
abbrev pub first_reading : List MeterReading → Option MeterReading
first_reading rs = slice_get rs 0

-- The last reading.
abbrev pub last_reading : List MeterReading → Option MeterReading
last_reading rs = slice_get rs (length rs - 1)

-- The events of a transaction among events.
abbrev pub own_events : List ℕ → List Entry → List Entry
own_events tx es = filter (λ e. bytes_eq tx e.0.tx) es

-- The readings of a transaction among events in one direction, in order.
abbrev pub own_readings : Direction → List ℕ → List Entry → List MeterReading
own_readings d tx es = flat_map (λ e. toward d e.1.event.readings) (own_events tx es)

-- The live events in front of a key.
abbrev pub before_key : KeyName → List Entry → List Entry
before_key key es = filter (λ e. is_lt (key_cmp e.0 key)) (live es)

-- The live events behind a key.
abbrev pub behind_key : KeyName → List Entry → List Entry
behind_key key es = filter (λ e. is_lt (key_cmp key e.0)) (live es)

-- The second entries have one more live event, between those in front and those behind.
pub record IsOneMore (es more front : List Entry) (e : Entry) (back : List Entry) : Type 0 where
  pub less_live : live es ≡ front ++ back
  pub more_live : live more ≡ front ++ e ∷ back

-- The reading of one direction before the event's place in its transaction, if there is one.
abbrev pub reading_before : Direction → List Entry → Entry → Option MeterReading
reading_before d front e = last_reading (own_readings d e.0.tx front)

-- The reading behind it.
abbrev pub reading_behind : Direction → Entry → List Entry → Option MeterReading
reading_behind d e back = first_reading (own_readings d e.0.tx back)

-- The pair of one direction across the event's place, which is there without the event.
abbrev pub pairs_less : Direction → List Entry → Entry → List Entry → List Pair
pairs_less d front e back = across (reading_before d front e) (reading_behind d e back)

-- The pairs of one direction that are there with the event: those that its readings make.
abbrev pub pairs_more : Direction → List Entry → Entry → List Entry → List Pair
pairs_more d front e back = pairs_between (reading_before d front e) (toward d e.1.event.readings) (reading_behind d e back)

-- The station's pairs of one direction that are there with and without the event: those of other
-- transactions, and those of its own on either side of its place.
abbrev pub pairs_kept : Direction → List Entry → List Entry → Entry → List Entry → List Pair
pairs_kept d es front e back =
    flat_map (λ tx. pairs_of d tx es) (filter (λ tx. not (bytes_eq e.0.tx tx)) (transactions_of (live es)))
    ++ (followed (own_readings d e.0.tx front) ++ followed (own_readings d e.0.tx back))

-- The pairs if there is a reading, else none.
abbrev pub if_read : List MeterReading → List Pair → List Pair
if_read [] ps = []
if_read (r ∷ rs) ps = ps

-- The first pairs if there is a reading, else the second.
abbrev pub read_or : List MeterReading → List Pair → List Pair → List Pair
read_or [] ps qs = qs
read_or (r ∷ rs) ps qs = ps

-- The pair of one direction that the event takes away: the pair across its place. If it has no
-- reading of that direction, it takes none away.
abbrev pub gone_by : Direction → List Entry → Entry → List Entry → List Pair
gone_by d front e back = if_read (toward d e.1.event.readings) (pairs_less d front e back)

-- The pairs of one direction that the event brings: those with a reading of its own. If it has no reading of that
-- direction, it brings none.
abbrev pub came_by : Direction → List Entry → Entry → List Entry → List Pair
came_by d front e back = if_read (toward d e.1.event.readings) (pairs_more d front e back)

-- The station's pairs of one direction that the event leaves as they are: all, if it has no reading of that
-- direction.
abbrev pub kept_by : Direction → List Entry → List Entry → Entry → List Entry → List Pair
kept_by d es front e back = read_or (toward d e.1.event.readings) (pairs_kept d es front e back) (pairs d es)

-- The greatest number of pairs of one direction that come or go with an event of so many readings
-- of that direction.
abbrev pub most_for : ℕ → ℕ
most_for zero = 0
most_for (suc n) = n + 3

-- The energy if a test holds, else none.
abbrev pub flow_if : Bool → Energy → Energy
flow_if b flow = if b then flow else no_energy
