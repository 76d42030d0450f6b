-- What one more event, or one more reading, changes in either order, law by law.
use Rattle.std.{specs.Prelude.{◌≡◌, ℕ, ◌+◌, ◌*◌, ◌≤◌, false, not, List, filter, length, sum_by}, specs.Str.bytes_eq}
use Rattle.ledger_model.{specs.Periods.Periods, specs.declared.order.Order.Order, specs.declared.order.Order.TheVariants.Moment, specs.declared.reading.Direction.Direction, specs.Content.Entry, specs.Deltas.{before_key, behind_key, IsOneMore}, specs.Energy.{Pair, all_pairs_by, energy_by, energy_in_by, energy_of_by, pairs_by}, specs.Event.toward, specs.Evse.energy_at_by, specs.ReadingOrder.{is_own, numbered_by, pairs_across, pairs_with, runs_of}}

-- The second entries have the same energies by moment as the first: of each transaction, each EVSE and each period, and
-- of the station.
pub record HaveSameEnergies (d : Direction) (es more : List Entry) : Type 0 where
  pub transaction : (tx : List ℕ) → energy_of_by Moment d tx more ≡ energy_of_by Moment d tx es
  pub evse : (evse : ℕ) → energy_at_by Moment d evse more ≡ energy_at_by Moment d evse es
  pub quarter : (period : Periods) (q : ℕ) → energy_in_by Moment d period q more ≡ energy_in_by Moment d period q es
  pub station : energy_by Moment d more ≡ energy_by Moment d es

-- The second entries have one more live event, in the place of its key.
abbrev pub IsOneMoreInPlace : List Entry → List Entry → Entry → Type 0
IsOneMoreInPlace es more e = IsOneMore es more (before_key e.0 es) e (behind_key e.0 es)

-- With one more live event, the readings of its transaction without that event's own are the
-- readings before. The pairs across its runs go, and the pairs come that have one of its readings.
-- Both together are at most as many as its readings and twice its runs.
pub record ReadingsMove (order : Order) (d : Direction) (es more : List Entry) (e : Entry) : Type 0 where
  pub without : filter (λ n. not (is_own e.0.seq n)) (numbered_by order d e.0.tx more) ≡ numbered_by order d e.0.tx es
  pub own : length (filter (is_own e.0.seq) (numbered_by order d e.0.tx more)) ≡ length (toward d e.1.event.readings)
  pub transaction : (f : Pair → ℕ)
      → sum_by f (pairs_by order d e.0.tx more) + sum_by f (pairs_across order d e.0 more)
      ≡ sum_by f (pairs_by order d e.0.tx es) + sum_by f (pairs_with order d e.0 more)
  pub station : (f : Pair → ℕ)
      → sum_by f (all_pairs_by order d more) + sum_by f (pairs_across order d e.0 more)
      ≡ sum_by f (all_pairs_by order d es) + sum_by f (pairs_with order d e.0 more)
  pub few : length (pairs_across order d e.0 more) + length (pairs_with order d e.0 more) ≤ length (toward d e.1.event.readings) + 2 * runs_of order d e.0 more

-- One more live event leaves the pairs of every other transaction as they are.
abbrev pub OtherPairsStay : Type 0
OtherPairsStay = (order : Order) (d : Direction) (es more front : List Entry) (e : Entry) (back : List Entry) (tx : List ℕ)
    → IsOneMore es more front e back → bytes_eq tx e.0.tx ≡ false → pairs_by order d tx more ≡ pairs_by order d tx es
