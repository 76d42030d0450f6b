-- One transaction of one station, among all that happens in a world.
use Rattle.std.specs.Prelude.{ℕ, List, map}
use Rattle.ledger_model.{specs.World.{Happens, Station}, specs.WorldLaws.{commands_on, station_left}}
use Rattle.transaction_laws.{specs.Alone.alone, specs.Transcript.{Exchange, accepted_in, own_transcript}}

-- The part of a transaction in what happens to a station that had no event before.
abbrev pub transcript_at : List ℕ → Station → List Happens → List Exchange
transcript_at tx s hs = own_transcript tx s.limits (commands_on s.name hs)

-- What happens to the transaction: its commands alone.
abbrev pub happens_at : List ℕ → Station → List Happens → List Happens
happens_at tx s hs = map (λ l. (s.name, l.0)) (transcript_at tx s hs)

-- The station with nothing but this transaction.
abbrev pub station_alone : List ℕ → List Happens → Station → Station
station_alone tx hs s = record s { content = alone tx (accepted_in (transcript_at tx s hs)) (station_left hs s).content }
