-- What one more live event changes, law by law.
use Rattle.std.{specs.Prelude.{◌≡◌, ℕ, ◌+◌, ◌≤◌, ◌==◌, true, false, if◌then◌else◌, List, ◌++◌, None, Some, count_by, length, sum_by}, specs.FinMap.find}
use Rattle.energy_flow.specs.Flow.{plus}
use Rattle.ledger_model.{specs.Periods.Periods, specs.declared.command.Command.TheVariants.{Deliver, Void, Restore}, specs.declared.order.Order.Order, specs.declared.reading.Direction.Direction, specs.Complete.is_complete, specs.Content.{Entry, Stored, has_transaction, live, transactions_of}, specs.Deltas.{across, before_key, behind_key, came_by, first_reading, flow_if, gone_by, kept_by, last_reading, own_readings, pairs_between, pairs_kept, pairs_less, pairs_more, IsOneMore}, specs.Energy.{Pair, energy, energy_in, energy_of, energy_of_by, energy_over, energy_within, followed, pairs, pairs_of, parts_over}, specs.Entries.{entries_after, IsRising}, specs.Event.{EventContent, MeterReading}, specs.Evse.{energy_at_by, evse_of, transactions_at}, specs.Gaps.{missing, numbers_of}, specs.Key.{KeyName, key_cmp}}

-- The middle readings are put in between the others: the pair across their place goes, and the
-- pairs come that they make with one another and with the readings on either side. The sum of each
-- measure of a pair changes in the same way. At most one pair goes, and at most one pair more comes
-- than there are readings in the middle.
pub record ArePutBetween (front mid back : List MeterReading) : Type 0 where
  pub pairs : followed (front ++ (mid ++ back)) ≡ followed front ++ (pairs_between (last_reading front) mid (first_reading back) ++ followed back)
  pub sums : (f : Pair → ℕ)
      → sum_by f (followed (front ++ (mid ++ back))) + sum_by f (across (last_reading front) (first_reading back))
      ≡ sum_by f (followed (front ++ back)) + sum_by f (pairs_between (last_reading front) mid (first_reading back))
  pub one_goes : length (across (last_reading front) (first_reading back)) ≤ 1
  pub few_come : length (pairs_between (last_reading front) mid (first_reading back)) ≤ length mid + 1

-- An event under its key, live.
abbrev pub live_under : KeyName → EventContent → Entry
live_under key event = (key, record { event = event; voided = false })

-- The delivery of a key without an event adds one live event, in the place of its key.
abbrev pub DeliveryMakesOneMore : Type 0
DeliveryMakesOneMore = (es : List Entry) (key : KeyName) (event : EventContent) → IsRising es → find key_cmp key es ≡ None
    → IsOneMore es (entries_after es (Deliver key event)) (before_key key es) (live_under key event) (behind_key key es)

-- Rising entries have an event under a key, live or voided.
pub record Holds (es : List Entry) (key : KeyName) (s : Stored) : Type 0 where
  pub rising : IsRising es
  pub stored : find key_cmp key es ≡ Some s

-- The restoration of a voided event adds one live event, in the place of its key.
abbrev pub RestorationMakesOneMore : Type 0
RestorationMakesOneMore = (es : List Entry) (key : KeyName) (s : Stored) → Holds es key s → s.voided ≡ true
    → IsOneMore es (entries_after es (Restore key)) (before_key key es) (live_under key s.event) (behind_key key es)

-- The void of a live event takes one live event away, from the place of its key.
abbrev pub VoidMakesOneLess : Type 0
VoidMakesOneLess = (es : List Entry) (key : KeyName) (s : Stored) → Holds es key s → s.voided ≡ false
    → IsOneMore (entries_after es (Void key)) es (before_key key es) (key, s) (behind_key key es)

-- With one more live event, the pairs of its transaction in a direction change only at its place.
-- The station's pairs with the event, and those without it, are, in some order, the pairs that are
-- kept and the pairs that come or go.
pub record PairsMove (d : Direction) (es more front : List Entry) (e : Entry) (back : List Entry) : Type 0 where
  pub own_without : pairs_of d e.0.tx es ≡ followed (own_readings d e.0.tx front) ++ (pairs_less d front e back ++ followed (own_readings d e.0.tx back))
  pub own_with : pairs_of d e.0.tx more ≡ followed (own_readings d e.0.tx front) ++ (pairs_more d front e back ++ followed (own_readings d e.0.tx back))
  pub station_without : (f : Pair → ℕ) → sum_by f (pairs d es) ≡ sum_by f (pairs_less d front e back ++ pairs_kept d es front e back)
  pub station_with : (f : Pair → ℕ) → sum_by f (pairs d more) ≡ sum_by f (pairs_more d front e back ++ pairs_kept d es front e back)
  pub less_kept : (f : Pair → ℕ) → sum_by f (pairs d es) ≡ sum_by f (gone_by d front e back ++ kept_by d es front e back)
  pub more_kept : (f : Pair → ℕ) → sum_by f (pairs d more) ≡ sum_by f (came_by d front e back ++ kept_by d es front e back)

-- How many parts of the differences of these pairs belong to a period.
abbrev pub count_in : Periods → ℕ → List Pair → ℕ
count_in period quarter ps = count_by (λ t. t.0 == quarter) (parts_over period ps)

-- With one more live event, the energies in a direction of the station, of the event's transaction
-- and of each period lose the pair that goes and gain the pairs that come, or their parts in the
-- period; so does the number of a period's parts. The transaction's old energy is taken from the EVSE where it was, and its new
-- energy is added to the EVSE where it is.
pub record EnergiesMove (d : Direction) (es more front : List Entry) (e : Entry) (back : List Entry) : Type 0 where
  pub station : plus (energy d more) (energy_over (gone_by d front e back)) ≡ plus (energy d es) (energy_over (came_by d front e back))
  pub transaction : plus (energy_of d e.0.tx more) (energy_over (gone_by d front e back)) ≡ plus (energy_of d e.0.tx es) (energy_over (came_by d front e back))
  pub quarter : (period : Periods) (q : ℕ)
      → plus (energy_in d period q more) (energy_within period q (gone_by d front e back))
      ≡ plus (energy_in d period q es) (energy_within period q (came_by d front e back))
  pub quarter_pairs : (period : Periods) (q : ℕ)
      → count_in period q (pairs d more) + count_in period q (gone_by d front e back)
      ≡ count_in period q (pairs d es) + count_in period q (came_by d front e back)
  pub evse : (order : Order) (evse : ℕ)
      → plus (energy_at_by order d evse more) (flow_if (evse_of e.0.tx es == evse) (energy_of_by order d e.0.tx es))
      ≡ plus (energy_at_by order d evse es) (flow_if (evse_of e.0.tx more == evse) (energy_of_by order d e.0.tx more))

-- How many of a station's transactions are complete.
abbrev pub count_complete : List Entry → ℕ
count_complete es = count_by (λ tx. is_complete tx es) (transactions_of (live es))

-- How many numbers a station's transactions miss.
abbrev pub count_missing : List Entry → ℕ
count_missing es = sum_by (λ tx. missing (numbers_of tx es)) (transactions_of (live es))

-- How many events are voided.
abbrev pub count_voided : List Entry → ℕ
count_voided es = count_by (λ e. e.1.voided) es

-- With one more live event of this transaction, the number of live events rises by one, and the
-- number of transactions by one if this one had no live event. How many transactions are complete,
-- how many numbers are missing and how many transactions an EVSE has change only by this
-- transaction.
pub record CountsMove (tx : List ℕ) (es more : List Entry) : Type 0 where
  pub events : length (live more) ≡ length (live es) + 1
  pub transactions : length (transactions_of (live more))
      ≡ (if has_transaction tx (live es) then length (transactions_of (live es)) else length (transactions_of (live es)) + 1)
  pub complete : count_complete more + (if is_complete tx es then 1 else 0) ≡ count_complete es + (if is_complete tx more then 1 else 0)
  pub missing : count_missing more + missing (numbers_of tx es) ≡ count_missing es + missing (numbers_of tx more)
  pub at_evse : (evse : ℕ)
      → length (transactions_at evse more) + (if has_transaction tx (live es) then (if evse_of tx es == evse then 1 else 0) else 0)
      ≡ length (transactions_at evse es) + (if evse_of tx more == evse then 1 else 0)
