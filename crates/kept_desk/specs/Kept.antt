use Rattle.std.specs.Prelude.{◌≡◌, ℕ, ◌+◌, ◌≤◌, Bool, List, [], ◌∷◌, ◌++◌, Option, All, map, length, None, Some, slice_get}
use Rattle.kept_desk.{specs.declared.entry.Entry.Entry, specs.Entries.of_station, specs.Journal.{IsWritten, OwnEntries}, specs.Speaking.AreSpoken}
use Rattle.ledger_model.{specs.declared.answer.Answer.Answer, specs.declared.answer.Answer.TheVariants.{Accepted, Repeat, Refused}, specs.declared.answer.Refusal.TheVariants.ChangesExhausted, specs.declared.command.Command.Command, specs.Admissible.IsAdmissible, specs.Board.{Board, board_by}, specs.Content.{Content, entries}, specs.Laws.{AreAccepted, left_by}, specs.Limits.Bounds, specs.Step.answer}
use Rattle.site_book.{specs.Book.Known, specs.Prefix.IsPrefix}
use Rattle.site_desk.{specs.declared.roster.StationPlace.StationPlace, specs.Operator.before_at, specs.Submit.IsTakenAt, specs.Cell.{Cell, IsInService}}

-- The commands of entries, in their order.
abbrev pub commands_of : List Entry → List Command
commands_of entries = map (λ e. e.command) entries

-- These commands, each admissible and each accepted under these limits, lead from the first content to this one; each
-- is counted.
pub record IsLeftFrom (limits : Bounds) (first c : Content) (commands : List Command) : Type 0 where
  pub admissible : All IsAdmissible commands
  pub accepted : AreAccepted limits first commands
  pub left : left_by limits first commands ≡ c
  pub counted : c.changes ≡ first.changes + length commands

-- What is behind a station's lock: the commands of the station's own entries lead from its first
-- content to the cell's content.
pub record IsKeptCell (first : ℕ → Content) (c : Cell) (share : OwnEntries) : Type 0 where
  pub station : share.station ≡ c.station
  pub left : IsLeftFrom c.limits (first c.station) c.content (commands_of share.entries)

-- This holds behind the lock of a station if its cell is in service.
abbrev pub KeepsCell : (ℕ → Content) → Cell → OwnEntries → Type 0
KeepsCell first c share = IsInService c → IsKeptCell first c share

-- The commands of just its station's entries in this list, each accepted, lead from the station's
-- first content to that of a cell in service.
abbrev pub IsLeftOwn : (ℕ → Content) → List Entry → Cell → Type 0
IsLeftOwn first log c = IsInService c → IsLeftFrom c.limits (first c.station) c.content (commands_of (of_station c.station log))

-- The board of the station of this place, under its name, is that of the content to which these
-- entries of it lead from its first content, by the place's period and order.
pub record IsBoardBehind (at : StationPlace) (first : Content) (own : List Entry) (b : List ℕ × Board) : Type 0 where
  pub content : Content
  pub left : IsLeftFrom at.limits first content (commands_of own)
  pub name : b.0 ≡ at.name
  pub shown : b.1 ≡ board_by at.order at.period (entries content)

-- The boards of the stations of the site of this number, in the plan's order, are those behind this one list of
-- entries.
abbrev pub AreBoardsBehind : (ℕ → Content) → List StationPlace → ℕ → List (List ℕ × Board) → List Entry → Type 0
AreBoardsBehind first places site boards log = (k : ℕ) (p : StationPlace) → slice_get places k ≡ Some p → p.site ≡ site
    → (b : List ℕ × Board) × (slice_get boards (before_at places site k) ≡ Some b) × IsBoardBehind p (first k) (of_station k log) b

-- What a desk with a journal keeps: the names are those of its stations, there is room for their cells, and they are
-- few.
pub record IsKeptDesk (name : ℕ → List ℕ) (places : List StationPlace) (cells room : ℕ) : Type 0 where
  pub names : (k : ℕ) (p : StationPlace) → slice_get places k ≡ Some p → name k ≡ p.name
  pub none : cells ≡ 0
  pub room_for_all : length places ≤ room
  pub few : length places ≤ 64

-- The command is accepted, as change n, at the content to which the commands of these entries, each accepted, lead from
-- the first one.
pub record IsAcceptedBehind (limits : Bounds) (first : Content) (entries : List Entry) (command : Command) : Type 0 where
  pub before : Content
  pub n : ℕ
  pub left : IsLeftFrom limits first before (commands_of entries)
  pub answered : answer limits before command ≡ Accepted n

-- What is known of a desk with a journal after its close: there is one list of entries. The writer
-- took its text. Its lines speak for their commands. Just each station's own entries lead to that
-- station's content. It begins with the entries of each of these moments.
pub record IsWrittenDown (name : ℕ → List ℕ) (first : ℕ → Content) (before : Option (List ℕ)) (broken : Bool)
    (now : Option (List ℕ)) (buffer : List ℕ) (cells : List Cell) (moments : List (List Entry)) : Type 0 where
  pub log : List Entry
  pub written : IsWritten broken before now buffer log
  pub spoken : AreSpoken name log
  pub left : (k : ℕ) (c : Cell) → slice_get cells k ≡ Some c → IsLeftFrom c.limits (first k) c.content (commands_of (of_station k log))
  pub begins : All (λ m. IsPrefix m log) moments

-- The entry's command was accepted as change n at its own line. The moment has all entries that the
-- journal had, with this one last. The commands of just its station's entries before it, each
-- accepted, lead from the station's first content to the content where it was accepted.
pub record IsGiven (at : StationPlace) (first : Content) (n : ℕ) (e : Entry) (told : Option Known) (moment : Option (List Entry)) : Type 0 where
  pub log : List Entry
  pub before : Content
  pub received : moment ≡ Some (log ++ e ∷ [])
  pub left : IsLeftFrom at.limits first before (commands_of (of_station e.station log))
  pub taken : IsTakenAt at before e.command n told

-- The command gets this answer at the content to which the commands of these entries, each accepted, lead from the
-- first one.
pub record IsAnsweredBehind (limits : Bounds) (first : Content) (entries : List Entry) (command : Command) (a : Answer) : Type 0 where
  pub before : Content
  pub left : IsLeftFrom limits first before (commands_of entries)
  pub answered : answer limits before command ≡ a

-- An answer that changed nothing comes with a moment: the entries of the command's station in it lead to the content
-- that gives this answer. Only ChangesExhausted may come without one.
abbrev pub IsUnmoved : StationPlace → Content → Answer → Entry → Option (List Entry) → Type 0
IsUnmoved at first a e None = a ≡ Refused ChangesExhausted
IsUnmoved at first a e (Some moment) = IsAnsweredBehind at.limits first (of_station e.station moment) e.command a

-- What comes with an answer: after an accepted command the moment of this entry.
abbrev pub IsReceived : StationPlace → Content → Answer → Entry → Option Known → Option (List Entry) → Type 0
IsReceived at first (Accepted n) e told moment = IsGiven at first n e told moment
IsReceived at first Repeat e told moment = IsUnmoved at first Repeat e moment
IsReceived at first (Refused why) e told moment = IsUnmoved at first (Refused why) e moment

-- This entry was added to a list. The share had its station's entries in that list, and the moment is of the
-- list with this entry.
pub record IsNoted (share : OwnEntries) (e : Entry) (moment : List Entry) : Type 0 where
  pub log : List Entry
  pub own : share.entries ≡ of_station share.station log
  pub received : moment ≡ log ++ e ∷ []
