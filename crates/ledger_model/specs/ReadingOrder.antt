-- What one more event, or one more reading, changes in a transaction's readings, in either order.
use Rattle.std.{specs.Prelude.{ℕ, Bool, ◌≡◌, ◌≢◌, ◌==◌, ◌||◌, List, [], ◌∷◌, ◌++◌, All, false, map, filter}, specs.List.flat_map}
use Rattle.ledger_model.{specs.declared.order.Order.Order, specs.declared.reading.Direction.Direction, specs.Event.{EventContent, MeterReading, toward}, specs.Key.KeyName, specs.Content.{Entry, live, live_of}, specs.InTime.{across_runs, in_order, in_pairs, runs}, specs.Energy.Pair}

-- When a reading was taken.
abbrev pub taken_when : MeterReading → ℕ
taken_when r = r.moment

-- A reading with the sequence number of its event.
abbrev pub Numbered : Type 0
Numbered = ℕ × MeterReading

-- The readings of an event in one direction, each with the event's number.
abbrev pub numbered : Direction → Entry → List Numbered
numbered d e = map (λ r. (e.0.seq, r)) (toward d e.1.event.readings)

-- The readings of a transaction in one direction, each with the number of its event, in an order.
abbrev pub numbered_by : Order → Direction → List ℕ → List Entry → List Numbered
numbered_by order d tx es = in_order order (λ n. n.1.moment) (flat_map (numbered d) (live_of tx es))

-- Whether a reading belongs to the event of this number.
abbrev pub is_own : ℕ → Numbered → Bool
is_own seq n = n.0 == seq

-- How many runs the readings of an event form: longest stretches of readings that all belong to
-- that event.
abbrev pub runs_of : Order → Direction → KeyName → List Entry → ℕ
runs_of order d key es = runs (is_own key.seq) (numbered_by order d key.tx es)

-- A pair of readings, without the numbers.
abbrev pub bare : Numbered × Numbered → Pair
bare p = (p.0.1, p.1.1)

-- The pairs that have a reading of the event.
abbrev pub pairs_with : Order → Direction → KeyName → List Entry → List Pair
pairs_with order d key es = map bare (filter (λ p. is_own key.seq p.0 || is_own key.seq p.1) (in_pairs (numbered_by order d key.tx es)))

-- The pairs across its runs, which are there while the event is not live.
abbrev pub pairs_across : Order → Direction → KeyName → List Entry → List Pair
pairs_across order d key es = map bare (across_runs (is_own key.seq) (numbered_by order d key.tx es))

-- The second entries have one more reading, in one live event.
pub record IsOneReadingMore (es more : List Entry) (key : KeyName) (r : MeterReading) : Type 0 where
  pub front : List Entry
  pub back : List Entry
  pub event : EventContent
  pub first : List MeterReading
  pub last : List MeterReading
  pub readings : event.readings ≡ first ++ last
  pub less_live : live es ≡ front ++ (key, record { event = event; voided = false }) ∷ back
  pub more_live : live more ≡ front ++ (key, record { event = record event { readings = first ++ r ∷ last }; voided = false }) ∷ back

-- A reading repeats others: some have its moment, and all that have it show its level.
pub record IsRepeat (r : MeterReading) (rs : List MeterReading) : Type 0 where
  pub there : filter (λ s. s.moment == r.moment) rs ≢ []
  pub level : All (λ s. s.moment ≡ r.moment → s.mwh ≡ r.mwh) rs
