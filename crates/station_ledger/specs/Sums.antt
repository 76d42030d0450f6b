-- The sums over a station's live events.
use Rattle.std.{specs.Prelude.{◌≡◌, ℕ, ◌+◌, ◌<◌, ◌≤◌, true, false, not, List, Option, None, Some, All, IfSome, length, count_by, sum_by}, specs.List.filter, specs.Ordering.eq_by_cmp, specs.FinMap.{find, put}}
use Rattle.std.specs.FinMap as finite
use Rattle.ledger_model.{specs.Periods.Periods, specs.declared.figures.Figures.Figures, specs.declared.order.Order.Order, specs.Board.figures_by, specs.Complete.is_complete, specs.Content.{Entry, Stored, live, transactions_of}, specs.ByDirection.in_direction, specs.declared.by_direction.ByDirection.ByDirection, specs.Deltas.{IsOneMore, before_key, behind_key}, specs.Energy.{all_pairs_by, energy_by}, specs.declared.reading.Direction.Direction, specs.Event.toward, specs.Figures.AreWithin, specs.Key.{KeyName, key_cmp}, specs.Step.readings_stored, proofs.Callers.AreEntries, specs.Gaps.{numbers_of, missing}, specs.Limits.Bounds, specs.Moment.IsMoment, specs.Ranges.{greatest_evse, most_event_readings, most_events, most_readings, most_transactions}, specs.declared.order.Order.TheVariants.{Sequence, Moment}}
use Rattle.ledger_model.specs.BoardLaws as laws
use Rattle.event_chain.{specs.Chains.{Chained, stored}, specs.Sides.AreSides, specs.declared.around.Sides.Sides}
use Rattle.quarter_table.{specs.Table.Table, specs.Pairs.{rows_of, station_flows_by}}
use Rattle.transaction_map.specs.Map.{Mapped, AreRising, id_cmp}
use Rattle.station_ledger.{specs.declared.by_moment.ByMoment.ByMoment, specs.ByMoment.AreByMoment, specs.declared.standing.Standing.Standing, specs.declared.sums.Sums.Sums, specs.declared.totals.Change.Change, specs.declared.totals.EvseSum.EvseSum, specs.Moved.{sum_at, evse_sum, with_one, without_one, with_figures, without_figures, HasRoomAt, CountsAt, HaveRoom, DoCount}, specs.declared.pairs.Way.Way, specs.Runs.by_way, specs.Sides.has_some, specs.Standing.kept_of}

-- Each transaction with a live event has a standing, and no other.
pub record AreStanding (order : Order) (limits : Bounds) (es : List Entry) (kept : Mapped Standing) : Type 0 where
  pub each : (tx : List ℕ) → find id_cmp tx kept.rows ≡ kept_of order tx es
  pub rising : AreRising kept.rows
  pub number : length kept.rows ≡ length (transactions_of (live es))
  pub room : kept.capacity ≡ limits.transactions

-- The sums of the EVSEs.
pub record AreEvseSums (order : Order) (es : List Entry) (evses : List EvseSum) : Type 0 where
  pub all : length evses ≡ greatest_evse + 1
  pub each : (n : ℕ) → n ≤ greatest_evse → sum_at evses n ≡ evse_sum order n es

-- The rows of the settlement periods of so many seconds.
pub record AreQuarterRows (order : Order) (limits : Bounds) (es : List Entry) (period : Periods) (quarters : Table) : Type 0 where
  pub rows : quarters.rows ≡ rows_of (station_flows_by order period es)
  pub room : quarters.capacity ≡ limits.readings

-- The figures without the energies and the voided events.
pub record AreCounts (es : List Entry) (f : Figures) : Type 0 where
  pub events : f.events ≡ length (live es)
  pub transactions : f.transactions ≡ length (transactions_of (live es))
  pub complete : f.complete ≡ count_by (λ tx. is_complete tx es) (transactions_of (live es))
  pub missing_are : f.missing ≡ sum_by (λ tx. missing (numbers_of tx es)) (transactions_of (live es))

-- The order in which the readings of a transaction are summed: by moment if they are kept so.
abbrev pub order_of : Option ByMoment → Order
order_of None = Sequence
order_of (Some b) = Moment

abbrev pub order_in : Sums → Order
order_in sums = order_of sums.by_moment

-- All sums of these events within these limits, except for the count of voided ones.
pub record AreSummed (limits : Bounds) (es : List Entry) (sums : Sums) : Type 0 where
  pub standing : AreStanding (order_in sums) limits es sums.kept
  pub at_evses : AreEvseSums (order_in sums) es sums.evses.items
  pub by_quarter : AreQuarterRows (order_in sums) limits es sums.period sums.quarters
  pub energies_are : (d : Direction) → in_direction d sums.energies ≡ energy_by (order_in sums) d es
  pub counts : AreCounts es sums.figures
  pub timed : IfSome sums.by_moment (AreByMoment limits es)

-- The rows with a transaction's standing written, or taken out if it has none.
abbrev pub keep : List ℕ → Option Standing → List (List ℕ × Standing) → List (List ℕ × Standing)
keep tx None rows = filter (λ r. not (eq_by_cmp id_cmp tx r.0)) rows
keep tx (Some s) rows = put id_cmp tx s rows

-- One live event came to the chains, or went from them, which had these events before. Given are its key, and the
-- readings on either side of its place in each direction in which it has a reading.
pub record IsTurning (way : Way) (es : List Entry) (chains : Chained) (key : KeyName) (place : ByDirection Sides) : Type 0 where
  pub event : Stored
  pub one : IsOneMore (by_way way es (stored chains)) (by_way way (stored chains) es) (before_key key es) (key, event) (behind_key key es)
  pub there : finite.get chains.events key ≡ Some (record { event = event.event; voided = by_way way false true })
  pub sides : (d : Direction) → AreSides d (has_some (toward d event.event.readings)) key es (in_direction d place)
  pub few : length event.event.readings ≤ most_event_readings

-- Events such as the limits allow, with each entry in range and each reading at a moment.
pub record AreAllowed (order : Order) (limits : Bounds) (es : List Entry) : Type 0 where
  pub figures_within : AreWithin limits (figures_by order es)
  pub readings_within : readings_stored es ≤ limits.readings
  pub in_time : (d : Direction) → All (λ p. IsMoment p.1.moment) (all_pairs_by order d es)
  pub in_range : AreEntries es
  pub rising : (tx : List ℕ) → laws.AreRising (numbers_of tx es)
  pub few_in_each : (key : KeyName) (s : Stored) → find key_cmp key es ≡ Some s → length s.event.readings ≤ most_event_readings
  pub most_transactions_within : limits.transactions ≤ most_transactions
  pub most_events_within : limits.events ≤ most_events
  pub most_readings_within : limits.readings ≤ most_readings

-- The sums are those of allowed events, and then one live event came or went.
pub record AreTurning (way : Way) (es : List Entry) (chains : Chained) (key : KeyName) (place : ByDirection Sides) (sums : Sums) : Type 0 where
  pub allowed : AreAllowed (order_in sums) chains.limits es
  pub turning : IsTurning way es chains key place
  pub summed : AreSummed chains.limits es sums

-- A transaction that changes is in the sums, and what it becomes has room there.
pub record CanReplace (tx : List ℕ) (change : Change) (sums : Sums) : Type 0 where
  pub place : find id_cmp tx sums.kept.rows ≡ None → (change.is ≡ None → ⊥) → length sums.kept.rows < sums.kept.capacity
  pub all : length sums.evses.items ≡ greatest_evse + 1
  pub room_at : (n : ℕ) → n ≤ greatest_evse → HasRoomAt n change.is (sum_at sums.evses.items n)
  pub counts_at : (n : ℕ) → n ≤ greatest_evse → CountsAt n change.was (with_one n change.is (sum_at sums.evses.items n))
  pub room : HaveRoom change.is sums.figures
  pub counts : DoCount change.was (with_figures change.is sums.figures)

-- Its standing, the sum of its EVSE and the figures follow the change.
pub record IsReplaced (tx : List ℕ) (change : Change) (old new : Sums) : Type 0 where
  pub kept : new.kept.rows ≡ keep tx change.is old.kept.rows
  pub room : new.kept.capacity ≡ old.kept.capacity
  pub all : length new.evses.items ≡ greatest_evse + 1
  pub evses : (n : ℕ) → sum_at new.evses.items n ≡ without_one n change.was (with_one n change.is (sum_at old.evses.items n))
  pub figures : new.figures ≡ without_figures change.was (with_figures change.is old.figures)
  pub period : new.period ≡ old.period
  pub quarters : new.quarters ≡ old.quarters
  pub energies : new.energies ≡ old.energies
  pub by_moment : new.by_moment ≡ old.by_moment

-- Only the rows of periods changed, and the readings by moment if they are kept so.
pub record ArePairsMoved (old new : Sums) : Type 0 where
  pub kept : new.kept ≡ old.kept
  pub evses : new.evses ≡ old.evses
  pub period : new.period ≡ old.period
  pub energies : new.energies ≡ old.energies
  pub figures : new.figures ≡ old.figures
  pub order : order_in new ≡ order_in old
