-- What the program can do, and what its words ask for.
use Rattle.std.{specs.Prelude.{◌≡◌, ◌≢◌, ℕ, ◌<◌, ◌≤◌, ◌^◌, ⊤, Bool, true, false, List, [], Option, None, Some, IfSome, is_some, not, codes, nat_lt, if◌then◌else◌, option_map, unwrap_or}, specs.declared.result.Result.Result, specs.declared.result.Result.TheVariants.Err}
use Rattle.core.specs.Str.Parse.{IsNumeral, digits_value, without_leading_plus}
use Rattle.clap.{specs.Matches.{first_value, matched_of, one_text, raw_values}, specs.Walk.{Row, rows_of}, specs.declared.parser.matches.Found.Found}
use Rattle.site_desk.specs.declared.plan.Plan.{Plan}
use Rattle.ocpp_board.{specs.declared.asked.Task.Task, specs.declared.asked.Task.TheVariants.{Replay, Serve, ServeRestored, Simulate}, specs.LimitWords.AsksLimits, specs.StationWords.AnswersWords, specs.declared.station_words.WordFault.WordFault, specs.declared.station_words.WordFault.TheVariants.BadLimits}
use Rattle.journal_server.specs.declared.serve.Journalling.{Journalling}
use Rattle.live_server.specs.declared.service.Live.{Live}
use Rattle.ledger_model.{specs.declared.order.Order.Order, specs.declared.order.Order.TheVariants.Sequence, specs.Periods.Periods, specs.declared.settle.Settle.Settle, specs.declared.settle.Settle.TheVariants.Later, specs.Quarter.{IsPeriod, default_period}, specs.Limits.Bounds}
use Rattle.script_lines.specs.LineMeaning.{order_word, settle_word}
use Rattle.station_link.specs.Sim.{IsSimulated}

-- A server ends after 1 to 64 connections, or no number of them ends it.
abbrev pub IsCounted : Option ℕ → Type 0
IsCounted None = ⊤
IsCounted (Some connections) = (1 ≤ connections) × (connections ≤ 64)

-- A server is asked for 1 to 64 connections, if for a number of them; a simulation for 1 to 64 stations and 2 to 64
-- events.
abbrev pub IsAskable : Task → Type 0
IsAskable Replay = ⊤
IsAskable (Serve plan journalling journalled) = IsCounted journalling.live.connections
IsAskable (ServeRestored restoring journalled) = IsCounted restoring.journalling.live.connections
IsAskable (Simulate stations events) = IsSimulated stations events

-- An option gives this number: that of its text, if the text is a decimal below this power of 2;
-- the other number if it has no text.
pub record Gives (found : Found) (option : List ℕ) (bits other number : ℕ) : Type 0 where
  pub read : (text : List ℕ) → one_text found option ≡ Some text → IsNumeral 10 (without_leading_plus text) → digits_value 10 (without_leading_plus text) < 2 ^ bits
      → number ≡ digits_value 10 (without_leading_plus text)
  pub none : one_text found option ≡ None → number ≡ other

-- An option gives this number, if the number is in this range.
pub record GivesWithin (found : Found) (option : List ℕ) (bits other least most number : ℕ) : Type 0 where
  pub given : ℕ
  pub gives : Gives found option bits other given
  pub within : least ≤ given → given ≤ most → number ≡ given

-- A flag is set if it is used, and not set if it is not used.
pub record IsFlag (found : Found) (option : List ℕ) (flag : Bool) : Type 0 where
  pub none : one_text found option ≡ None → flag ≡ false
  pub set : one_text found option ≡ Some (codes "true") → flag ≡ true
  pub unset : one_text found option ≡ Some (codes "false") → flag ≡ false

-- An option gives the number of its text, if the text is a decimal below this power of 2, and none
-- if it has no text.
pub record GivesSome (found : Found) (option : List ℕ) (bits : ℕ) (number : Option ℕ) : Type 0 where
  pub read : (text : List ℕ) → one_text found option ≡ Some text → IsNumeral 10 (without_leading_plus text) → digits_value 10 (without_leading_plus text) < 2 ^ bits
      → number ≡ Some (digits_value 10 (without_leading_plus text))
  pub none : one_text found option ≡ None → number ≡ None

-- No number of connections ends a live server; that of its option ends any other.
pub record AsksConnections (found : Found) (connections : Option ℕ) : Type 0 where
  pub live : IsFlag found (codes "live") (not (is_some connections))
  pub count : IfSome connections (GivesWithin found (codes "connections") 8 1 1 64)

-- What the options of a server ask for.
pub record AsksLive (found : Found) (live : Live) : Type 0 where
  pub port : Gives found (codes "port") 16 0 live.port
  pub watch : Gives found (codes "watch") 16 0 live.glances
  pub log : IsFlag found (codes "log") live.is_logged
  pub boards : GivesSome found (codes "board-port") 16 live.board_port
  pub connections : AsksConnections found live.connections

-- What the options of a server ask for, with that of its receipts' times.
pub record AsksJournalling (found : Found) (journalling : Journalling) : Type 0 where
  pub live : AsksLive found journalling.live
  pub receipt_times : IsFlag found (codes "receipt-times") journalling.has_receipt_times

-- The rule of settling that a word asks for: the one that it names; by the later reading if it names none
-- or there is no word.
abbrev pub asked_rule : Option (List ℕ) → Settle
asked_rule None = Later
asked_rule (Some word) = unwrap_or (settle_word word) Later

-- The length of the settlement periods of all sites of a server: that of its option, if that is one of
-- the four.
pub record AsksLength (found : Found) (seconds : ℕ) : Type 0 where
  pub given : ℕ
  pub gives : Gives found (codes "period") 16 default_period given
  pub within : IsPeriod given → seconds ≡ given

-- The settlement periods of all sites of a server: of that length, and by the rule of its option's word.
pub record AsksPeriod (found : Found) (period : Periods) : Type 0 where
  pub length : AsksLength found period.length
  pub rule : period.rule ≡ asked_rule (first_value found (codes "settle"))

-- The order of readings that a word asks for: the one that it names; by sequence if it names none or there is no word.
abbrev pub asked_order : Option (List ℕ) → Order
asked_order None = Sequence
asked_order (Some word) = unwrap_or (order_word word) Sequence

-- The order of readings of all sites of a server: that of its option's word.
abbrev pub AsksOrder : Found → Order → Type 0
AsksOrder found order = order ≡ asked_order (first_value found (codes "order"))

-- The words of an option, if it is used.
abbrev pub option_words : Found → List ℕ → Option (List (List ℕ))
option_words found option = option_map raw_values (matched_of found option)

-- The words that name stations.
abbrev pub station_words : Found → List (List ℕ)
station_words found = unwrap_or (option_words found (codes "stations")) []

-- The plan under these limits is that of the words; each site has the settlement periods and the order
-- of readings that the options ask for, and a viewer if its totals are watched. If words state no
-- limits, that is reported.
abbrev pub AsksStations : Found → ℕ → Option Bounds → Result Plan WordFault → Type 0
AsksStations found glances None plan = plan ≡ Err BadLimits
AsksStations found glances (Some limits) plan = (period : Periods)
    × (AsksPeriod found period × ((order : Order) × (AsksOrder found order × AnswersWords plan (if nat_lt 0 glances then 1 else 0) period order limits (station_words found))))

-- The plan of a server is that of its words, under the limits that the options ask for.
abbrev pub AsksPlan : Found → ℕ → Result Plan WordFault → Type 0
AsksPlan found glances plan = (limits : Option Bounds) × (AsksLimits (option_words found (codes "limits")) limits × AsksStations found glances limits plan)

-- Whether a server has a journal, and whether it is restored.
pub record AsksKept (found : Found) (journal restore : Bool) : Type 0 where
  pub journals : IsFlag found (codes "journal") journal
  pub restores : IsFlag found (codes "restore") restore

-- The words ask for a server with these options, and with the plan of its words or of a script.
abbrev pub AsksServe : Found → Task → Type 0
AsksServe found Replay = ⊥
AsksServe found (Serve plan journalling journalled) = AsksJournalling found journalling × AsksPlan found journalling.live.glances plan × AsksKept found journalled false
AsksServe found (ServeRestored restoring journalled) = AsksJournalling found restoring.journalling × AsksKept found journalled true × IsFlag found (codes "allow-left-out") restoring.allows_left_out
AsksServe found (Simulate stations events) = ⊥

-- The words ask for a simulation.
abbrev pub AsksSimulate : Found → Task → Type 0
AsksSimulate found Replay = ⊥
AsksSimulate found (Serve plan journalling journalled) = ⊥
AsksSimulate found (ServeRestored restoring journalled) = ⊥
AsksSimulate found (Simulate stations events) = GivesWithin found (codes "stations") 16 2 1 64 stations × GivesWithin found (codes "events") 32 3 2 64 events

-- What was found of a command's options, as rows of their ids and values.
pub record IsFound (rows : List Row) (found : Found) : Type 0 where
  pub same : rows_of found ≡ rows

-- The words ask for the command that they name: `serve` or `sim` by the rows of their options, else a replay.
pub record IsAskedBy (named : Option (List ℕ × List Row)) (asked : Task) : Type 0 where
  pub serves : (rows : List Row) → named ≡ Some (codes "serve", rows) → (found : Found) × IsFound rows found × AsksServe found asked
  pub simulates : (rows : List Row) → named ≡ Some (codes "sim", rows) → (found : Found) × IsFound rows found × AsksSimulate found asked
  pub replays : option_map (λ p. p.0) named ≢ Some (codes "serve") → option_map (λ p. p.0) named ≢ Some (codes "sim") → asked ≡ Replay
