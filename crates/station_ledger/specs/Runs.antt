-- An event's readings among the others of its transaction, run by run.
use Rattle.std.{specs.Prelude.{◌≡◌, ◌==◌, ℕ, ◌+◌, ◌*◌, ◌≤◌, Bool, List, [], ◌++◌, Option, length}, specs.List.AllByRecursion}
use Rattle.energy_flow.specs.Flow.{Energy}
use Rattle.ledger_model.{specs.Periods.Periods, specs.Board.Flowed, specs.Deltas.pairs_between, specs.declared.reading.Direction.Direction, specs.ByDirection.{in_direction, flows_toward}, specs.Energy.{Pair, energy_over, followed}, specs.InTime.runs, specs.Ranges.{greatest_reading, most_event_readings, most_readings}, proofs.RunLemmas.{AreForeign, AreOwn}}
use Rattle.quarter_table.{specs.Pairs.{rows_of, total}, specs.Table.Table}
use Rattle.event_chain.specs.declared.around.Sides.{Sides}
use Rattle.reading_index.{specs.Ranks.{number_of, owner, owner_of}, specs.Timed.{Timed, TimedReadings, AreRising, owned}}
use Rattle.station_ledger.{specs.declared.by_moment.Moved.Moved, specs.declared.pairs.Way.Way, specs.declared.pairs.Way.TheVariants.{Coming, Going}, specs.ByMoment.{bare, bare_one, put_each, take_each, ArePuttable}, specs.Quarters.{HasRoom, DidMove, IsTableMoved, IsWork, quartered}}

-- Whether a reading belongs to the event of this number.
abbrev pub own_timed : ℕ → Timed → Bool
own_timed seq t = number_of t.0 == seq

-- The sums of a direction's pairs and of others are, in each part, no more than so many readings can show.
pub record AreFew (most : ℕ) (d : Direction) (e : Energy) (rest : List Flowed) : Type 0 where
  pub up : (k : Direction) → (in_direction k (flows_toward d e)).up + (in_direction k (total rest)).up ≤ greatest_reading * most
  pub down : (k : Direction) → (in_direction k (flows_toward d e)).down + (in_direction k (total rest)).down ≤ greatest_reading * most

-- The pairs of readings without their ranks.
abbrev pub pairs_among : List Timed → List Pair
pairs_among ts = followed (bare ts)

-- An event's readings by rank, none of them among the others of their owner; and the rows of the
-- owner's pairs and the rest.
pub record AreApart (o seq : ℕ) (period : Periods) (d : Direction) (readings others : List Timed) (ps : List Pair) (t : Table) (rest : List Flowed) : Type 0 where
  pub owned_by : AllByRecursion (λ r. owner_of r.0 ≡ o) readings
  pub own : AreOwn (own_timed seq) readings
  pub foreign : AreForeign (own_timed seq) others
  pub rising : AreRising readings
  pub sorted : AreRising others
  pub small : length readings ≤ most_event_readings
  pub rows : t.rows ≡ rows_of (quartered period d ps ++ rest)
  pub room : length others + length readings + length rest ≤ t.capacity + 1
  pub few_rows : t.capacity ≤ most_readings
  pub few : AreFew most_readings d (energy_over ps) rest

-- The rows have other pairs of the owner in place of these; the energies that went and came are the
-- difference.
pub record AreExchanged (period : Periods) (d : Direction) (old new : List Pair) (rest : List Flowed) (next : Table) (m : Moved) : Type 0 where
  pub rows : next.rows ≡ rows_of (quartered period d new ++ rest)
  pub up : (energy_over new).up + m.less.up ≡ (energy_over old).up + m.more.up
  pub down : (energy_over new).down + m.less.down ≡ (energy_over old).down + m.more.down
  pub more_up : m.more.up ≤ greatest_reading * (2 * most_event_readings)
  pub more_down : m.more.down ≤ greatest_reading * (2 * most_event_readings)

-- Some pairs of a direction were taken out of the rows, and then others added.
pub record AreSwapped (period : Periods) (d : Direction) (gone came : List Pair) (old new : Table) (before after : ℕ) (m : Moved) : Type 0 where
  pub left : Table
  pub meanwhile : ℕ
  pub taken : DidMove Going period d gone old left before meanwhile m.less
  pub added : DidMove Coming period d came left new meanwhile after m.more

-- The gap between two readings, without their ranks.
abbrev pub gap_of : Option Timed → Option Timed → Sides
gap_of before behind = record { before = bare_one before; behind = bare_one behind }

-- The pairs that a run of readings makes in a gap; of no reading, the pair across it.
abbrev pub run_pairs : Sides → List Timed → List Pair
run_pairs gap run = pairs_between gap.before (bare run) gap.behind

-- One of two: the first if readings come, the second if they go.
abbrev pub by_way : {X : Type 0} → Way → X → X → X
by_way Coming a b = a
by_way Going a b = b

-- Of an event's readings, or a run of them, those that go.
abbrev pub gone_of : Way → List Timed → List Timed
gone_of Coming ts = []
gone_of Going ts = ts

-- And those that come.
abbrev pub came_of : Way → List Timed → List Timed
came_of Coming ts = ts
came_of Going ts = []

-- After these pairs of a direction are taken out, the table has room for so many.
abbrev pub HasRoomWithout : Periods → Direction → List Pair → ℕ → Table → Type 0
HasRoomWithout period d gone more t = (left : Table) → IsTableMoved Going (quartered period d gone) t left → HasRoom more left

-- The readings of an owner in an index, with these.
abbrev pub with_readings : ℕ → List Timed → TimedReadings → List Timed
with_readings o readings index = put_each readings (owned o index.entries)

-- The readings of an owner in an index, with those of an event that go, and with those that come.
abbrev pub readings_then : Way → ℕ → List Timed → TimedReadings → List Timed
readings_then way o readings index = with_readings o (gone_of way readings) index

abbrev pub readings_next : Way → ℕ → List Timed → TimedReadings → List Timed
readings_next way o readings index = with_readings o (came_of way readings) index

-- An event's readings are not among their owner's in an index; the rows have the pairs that the owner's make, with the
-- event's if they go, and the rest.
abbrev pub AreToMove : Way → ℕ → ℕ → Periods → Direction → List Timed → TimedReadings → Table → List Flowed → Type 0
AreToMove way o seq period d readings index t rest = AreApart o seq period d readings (owned o index.entries) (pairs_among (readings_then way o readings index)) t rest

-- The pairs that an owner's readings make with an event's came in place of those without them, or the other way round,
-- with at most one difference for each reading of the event and two for each run of them.
pub record HaveMoved (way : Way) (o seq : ℕ) (period : Periods) (d : Direction) (readings : List Timed) (index : TimedReadings) (rest : List Flowed) (next : Table) (w v : ℕ) (m : Moved) : Type 0 where
  pub moved : AreExchanged period d (pairs_among (readings_then way o readings index)) (pairs_among (readings_next way o readings index)) rest next m
  pub work : IsWork (length readings + 2 * runs (own_timed seq) (with_readings o readings index)) w v

-- For any event with these readings, and any rest: if they can come or go, they have.
abbrev pub TheyMove : Way → Periods → Direction → List Timed → TimedReadings → Table → Table → ℕ → ℕ → Moved → Type 0
TheyMove way period d readings index t u w v m = (o seq : ℕ) (rest : List Flowed) → AreToMove way o seq period d readings index t rest → HaveMoved way o seq period d readings index rest u w v m

-- The readings of a transaction's slot and a direction.
abbrev pub side : ℕ → Direction → TimedReadings → List Timed
side slot d index = owned (owner slot d) index.entries

-- Readings are put into a list, or taken out of it.
abbrev pub moved_each : Way → List Timed → List Timed → List Timed
moved_each Coming xs ts = put_each xs ts
moved_each Going xs ts = take_each xs ts

abbrev pub moved_index : Way → List Timed → TimedReadings → TimedReadings
moved_index way xs index = record index { entries = moved_each way xs index.entries }

-- There is a place for readings that come.
abbrev pub HavePlace : Way → List Timed → TimedReadings → Type 0
HavePlace Coming xs index = (length index.entries + length xs ≤ index.capacity) × ArePuttable xs index.entries
HavePlace Going xs index = Unit {0}

-- An event's readings of a direction can be moved, and their pairs: put into an index, or taken out of it.
pub record CanMove (way : Way) (period : Periods) (d : Direction) (readings : List Timed) (index : TimedReadings) (t : Table) : Type 0 where
  pub o : ℕ
  pub seq : ℕ
  pub rest : List Flowed
  pub apart : AreToMove way o seq period d readings (by_way way index (moved_index way readings index)) t rest
  pub place : HavePlace way readings index

-- They were moved, and their pairs.
pub record AreMoved (way : Way) (period : Periods) (d : Direction) (readings : List Timed) (index next : TimedReadings) (t u : Table) (w v : ℕ) (m : Moved) : Type 0 where
  pub entries : next.entries ≡ moved_each way readings index.entries
  pub capacity : next.capacity ≡ index.capacity
  pub room : u.capacity ≡ t.capacity
  pub moved : TheyMove way period d readings (by_way way index next) t u w v m
