-- Readings by moment, and one live event that comes or goes.
use Rattle.std.specs.Prelude.{◌≡◌, ◌≤◌, List, length}
use Rattle.ledger_model.{specs.Periods.Periods, specs.declared.order.Order.TheVariants.Moment, specs.declared.reading.Direction.Direction, specs.Content.{Entry, Stored}, specs.Deltas.{IsOneMore, before_key, behind_key}, specs.Event.toward, specs.Key.KeyName, specs.Ranges.most_event_readings}
use Rattle.event_chain.specs.Chains.{Chained, stored}
use Rattle.quarter_table.specs.Table.{Table}
use Rattle.station_ledger.{specs.declared.by_moment.ByMoment.ByMoment, specs.declared.pairs.Way.Way, specs.ByMoment.AreByMoment, specs.Quarters.readings_at, specs.Runs.by_way, specs.Sums.{AreAllowed, AreQuarterRows}}

-- One live event comes to the chains, or goes from them: the chains have the events with it, or those without it. The
-- readings by moment and the periods are those of the events before.
pub record IsMove (way : Way) (less more : List Entry) (chains : Chained) (key : KeyName) (b : ByMoment) (period : Periods) (quarters : Table) : Type 0 where
  pub event : Stored
  pub one : IsOneMore less more (before_key key less) (key, event) (behind_key key less)
  pub now_are : by_way way more less ≡ stored chains
  pub readings : (d : Direction) → readings_at d chains key ≡ toward d event.event.readings
  pub few : length event.event.readings ≤ most_event_readings
  pub small : AreAllowed Moment chains.limits less
  pub large : AreAllowed Moment chains.limits more
  pub timed : AreByMoment chains.limits (by_way way less more) b
  pub rows : AreQuarterRows Moment chains.limits (by_way way less more) period quarters
