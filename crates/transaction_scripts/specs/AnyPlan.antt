-- One transaction of a station in a script, and in another script that declares this station alike, whatever else it
-- declares.
use Rattle.std.specs.Prelude.{◌≡◌, ◌≤◌, ℕ, List, Some, ⊤}
use Rattle.ledger_model.{specs.Content.empty_content, specs.World.Station}
use Rattle.script_ledgers.specs.Script.{Script, order_named, period_named, station_named}
use Rattle.script_lines.specs.LineMeaning.{LineMeaning, sets_limits, declares, sets_period, sets_order, sets_settle}
use Rattle.transaction_laws.specs.Alone.{alone}

-- A line declares nothing of a plan.
abbrev pub DeclaresNothing : LineMeaning → Type 0
DeclaresNothing (sets_limits _ _ _ _) = ⊥
DeclaresNothing (declares _ _) = ⊥
DeclaresNothing (sets_period _ _) = ⊥
DeclaresNothing (sets_order _ _) = ⊥
DeclaresNothing (sets_settle _ _) = ⊥
DeclaresNothing _ = ⊤

-- Two scripts declare the station of this name alike, by site and limits, and its site with the same order of readings and
-- the same settlement periods. It has no event yet, and both are at one moment.
pub record DeclareAlike (name : List ℕ) (s other : Script) : Type 0 where
  pub station : Station
  pub declared : station_named name s.world ≡ Some station
  pub declared_again : station_named name other.world ≡ Some station
  pub empty : station.content ≡ empty_content
  pub order : order_named other station.site ≡ order_named s station.site
  pub period : period_named other station.site ≡ period_named s station.site
  pub moment : other.moment ≡ s.moment

-- The second script has the station of this name as the first has it, by site and limits, but with the events of just one
-- transaction, and so many changes counted. The station's site has the same order of readings and the same settlement
-- periods in both, and both are at one moment.
pub record HasAlone (name tx : List ℕ) (n : ℕ) (s lone : Script) : Type 0 where
  pub station : Station
  pub whole_station : station_named name s.world ≡ Some station
  pub lone_station : station_named name lone.world ≡ Some (record station { content = alone tx n station.content })
  pub changes : n ≤ station.content.changes
  pub order : order_named lone station.site ≡ order_named s station.site
  pub period : period_named lone station.site ≡ period_named s station.site
  pub moment : lone.moment ≡ s.moment
