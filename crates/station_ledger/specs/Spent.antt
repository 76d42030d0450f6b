use Rattle.std.{specs.Prelude.{◌≡◌, ℕ, ◌+◌, ◌*◌, ◌≤◌, List, Option, None, Some, filter, length}, specs.FinMap.FinMap}
use Rattle.std.specs.FinMap as finite
use Rattle.ledger_model.{specs.declared.command.Command.Command, specs.declared.command.Command.TheVariants.{Deliver, Void, Restore, Erase}, specs.declared.reading.Direction.Direction, specs.declared.reading.Direction.TheVariants.{Import, Export}, specs.declared.order.Order.Order, specs.declared.order.Order.TheVariants.{Sequence, Moment}, specs.Deltas.most_for, specs.Event.{MeterReading, toward}, specs.Key.{KeyName, key_cmp}, specs.Content.{Entry, Stored}, specs.ReadingOrder.{is_own, numbered_by, runs_of}, specs.Step.events_after, specs.declared.answer.Answer.Answer, specs.declared.answer.Answer.TheVariants.{Accepted, Repeat, Refused}}
use Rattle.event_chain.specs.Chains.{Chained, stored}
use Rattle.station_ledger.{specs.declared.pairs.Way.Way, specs.Quarters.readings_at, specs.Runs.by_way}

-- The count of work only grows, and stays the same if nothing was accepted.
abbrev pub IsSpent : Answer → ℕ → ℕ → Type 0
IsSpent (Accepted n) before after = before ≤ after
IsSpent Repeat before after = after ≡ before
IsSpent (Refused why) before after = after ≡ before

-- The most differences that come and go with an event of these readings: two more than it has
-- readings of each direction, and none in a direction without a reading.
abbrev pub most_with : List MeterReading → ℕ
most_with rs = most_for (length (toward Import rs)) + most_for (length (toward Export rs))

-- The most differences that come and go with the event under a key of the chains, by its readings of each direction.
abbrev pub most_at : Chained → KeyName → ℕ
most_at chains key = most_for (length (readings_at Import chains key)) + most_for (length (readings_at Export chains key))

-- The most differences that come and go with a stored event, 0 if there is none.
abbrev pub most_under : Option Stored → ℕ
most_under None = 0
most_under (Some s) = most_with s.event.readings

-- The most differences of a direction that come and go with the live event of a key, its readings
-- taken by moment: one for each of them, and two for each run that they form.
abbrev pub most_by_moment : Direction → KeyName → List Entry → ℕ
most_by_moment d key es = length (filter (is_own key.seq) (numbered_by Moment d key.tx es)) + 2 * runs_of Moment d key es

-- The most differences of both directions that come and go with the live event of a key, its readings taken by moment.
abbrev pub most_in_runs : KeyName → List Entry → ℕ
most_in_runs key es = most_by_moment Import key es + most_by_moment Export key es

-- The most for one live event that came to the chains, or went from them, which had these events before.
abbrev pub most_turned : Order → Way → Chained → KeyName → List Entry → ℕ
most_turned Sequence way chains key es = most_at chains key
most_turned Moment way chains key es = most_in_runs key (by_way way (stored chains) es)

-- The most differences that a command may evaluate: those of the event that it delivers, voids or restores, and none
-- for an erasure.
unfoldable pub most_spent : Order → FinMap key_cmp Stored → Command → ℕ
most_spent Sequence events (Deliver key event) = most_with event.readings
most_spent Sequence events (Void key) = most_under (finite.get events key)
most_spent Sequence events (Restore key) = most_under (finite.get events key)
most_spent Moment events (Deliver key event) = most_in_runs key (finite.entries (events_after events (Deliver key event)))
most_spent Moment events (Void key) = most_in_runs key (finite.entries events)
most_spent Moment events (Restore key) = most_in_runs key (finite.entries (events_after events (Restore key)))
most_spent order events (Erase key) = 0
