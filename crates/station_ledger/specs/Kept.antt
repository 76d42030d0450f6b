-- What a ledger keeps.
use Rattle.std.specs.Prelude.{◌≡◌, ℕ, ◌≤◌, Some, None, length, count_by}
use Rattle.std.specs.FinMap as finite
use Rattle.ledger_model.{specs.declared.command.Command.Command, specs.declared.command.Command.TheVariants.{Deliver, Void, Restore, Erase}, specs.Content.Content, specs.Limits.Bounds, specs.Ranges.{most_events, most_readings, most_transactions}, specs.Step.{Reached, events_after}}
use Rattle.event_chain.{specs.declared.answers.Found.TheVariants.{Live, Voided}, specs.declared.answers.Room.TheVariants.Fits, specs.Chains.{Chained, stored}, specs.Room.{found_of, room_of}}
use Rattle.station_ledger.{specs.declared.sums.Sums.Sums, specs.Sums.{AreAllowed, AreSummed, order_in}}

-- The content that chains show after so many changes.
abbrev pub content_in : Chained → ℕ → Content
content_in chains changes = record { events = chains.events; changes = changes }

-- How many of the stored events are voided.
abbrev pub voided_in : Chained → ℕ
voided_in chains = count_by (λ e. e.1.voided) (stored chains)

-- Events that the limits allow, reached by this many changes, and their sums.
pub record IsKept (limits : Bounds) (chains : Chained) (changes : ℕ) (sums : Sums) : Type 0 where
  pub limits_are : chains.limits ≡ limits
  pub reached : Reached limits changes (content_in chains changes)
  pub summed : AreSummed limits (stored chains) sums
  pub voided_are : sums.figures.voided ≡ voided_in chains
  pub few_transactions : limits.transactions ≤ most_transactions
  pub few_events : limits.events ≤ most_events
  pub few_readings : limits.readings ≤ most_readings

-- The chains can take this command: a new event has a key that is not stored, and room; an event to
-- void is live; one to restore or erase is voided.
abbrev pub IsReady : Chained → Command → Type 0
IsReady c (Deliver key event) = (finite.get c.events key ≡ None) × (room_of c.limits (stored c) key.tx (length event.readings) ≡ Fits)
IsReady c (Void key) = found_of (finite.get c.events key) ≡ Some Live
IsReady c (Restore key) = found_of (finite.get c.events key) ≡ Some Voided
IsReady c (Erase key) = found_of (finite.get c.events key) ≡ Some Voided

-- The command may be carried out: its key is as it has to be, the limits allow the events before it and after it, and
-- the sums are those of the events before it.
pub record CanDo (command : Command) (chains : Chained) (sums : Sums) : Type 0 where
  pub ready : IsReady chains command
  pub before : AreAllowed (order_in sums) chains.limits (stored chains)
  pub after : AreAllowed (order_in sums) chains.limits (finite.entries (events_after chains.events command))
  pub summed : AreSummed chains.limits (stored chains) sums
  pub voided : sums.figures.voided ≡ voided_in chains

-- The command was carried out, and the sums are those of the events after it.
pub record IsDone (command : Command) (chains new : Chained) (sums next : Sums) : Type 0 where
  pub limits : new.limits ≡ chains.limits
  pub events : new.events ≡ events_after chains.events command
  pub summed : AreSummed new.limits (stored new) next
  pub period : next.period ≡ sums.period
  pub order : order_in next ≡ order_in sums
  pub voided : next.figures.voided ≡ voided_in new
