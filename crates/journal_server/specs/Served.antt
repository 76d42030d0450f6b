-- What a server with a journal read, wrote and showed.
use Rattle.std.{specs.Prelude.{◌≡◌, ℕ, zero, suc, ◌+◌, ◌<◌, Bool, false, true, List, [], ◌∷◌, ◌++◌, length, Option, IfSome, Some, All, OnOk, map, slice_get}, specs.declared.result.Result.Result, specs.Io.KnownBytes.{Consumes, append_known}}
use Rattle.board_report.specs.Closed.{boards_text}
use Rattle.kept_desk.{specs.declared.entry.Entry.Entry, specs.Entries.{entry, of_station, text_of}, specs.Journal.IsWritten, specs.Kept.{AreBoardsBehind, IsAcceptedBehind, IsLeftFrom, IsReceived, IsWrittenDown, commands_of}, specs.Opened.contents_of}
use Rattle.journal_script.{specs.Cuts.run_begins, specs.Head.after, specs.Journals.{EndsWhole, IsSpoken, Shows}, specs.Restoring.{Grows, HasNoListen, IsListen, loses, marked_by}}
use Rattle.ledger_model.{specs.declared.answer.Answer.Answer, specs.declared.command.Command.Command, specs.Content.{Content, empty_content}}
use Rattle.site_book.{specs.Book.Known, specs.Prefix.IsPrefix}
use Rattle.script_lines.{specs.LineMeaning.{asks_board, line_meaning}, specs.Lines.{Line, lines_of}, specs.Ranges.longest_line}
use Rattle.script_ledgers.{specs.Drafts.site_name, specs.Script.{Script, line_step, start, script_after}}
use Rattle.site_desk.{specs.declared.plan.SitePlan.SitePlan, specs.declared.plan.StationPlan.StationPlan, specs.declared.roster.StationPlace.StationPlace, specs.Roster.AreNewPlaces, specs.Close.changes_of, specs.Cell.{Cell, Held}}
use Rattle.live_server.{specs.Browsing.IsSeenWithBoards, specs.Told.{Tells, operator_input}}
use Rattle.running_desk.specs.Ordered.{lines_in}
use Rattle.station_link.specs.Attended.{IsAnswered}
use Rattle.journal_server.specs.Left.{Left}

-- A script, in whole lines, that ends with these sites and stations, with the contents of these
-- cells.
pub record Leaves (script : List ℕ) (sites : List SitePlan) (stations : List StationPlan) (cells : List Cell) : Type 0 where
  pub whole : EndsWhole script
  pub shows : Shows (after script) sites stations cells

-- The texts of the first so many sites, one after the other.
abbrev pub joined : (ℕ → List ℕ) → ℕ → List ℕ
joined texts zero = []
joined texts (suc k) = joined texts k ++ texts k

-- These boards are what a replay in this state answers to `board <site>`, site by site.
pub record AreAnswers (s : Script) (sites : List SitePlan) (boards : List ℕ) : Type 0 where
  pub texts : ℕ → List ℕ
  pub is : boards ≡ joined texts (length sites)
  pub answers : (site : ℕ) (line : Line) → site < length sites → line_meaning line ≡ asks_board (site_name sites site) → (line_step s line).1 ≡ texts site

-- What was read declares a plan's sites, and the cells of its stations took no change.
pub record Declares (sites read : List SitePlan) (cells : List Cell) : Type 0 where
  pub names : map (λ s. s.name) read ≡ map (λ s. s.name) sites
  pub periods : map (λ s. s.period) read ≡ map (λ s. s.period) sites
  pub orders : map (λ s. s.order) read ≡ map (λ s. s.order) sites
  pub unchanged : All (λ c. c.content ≡ empty_content) cells

-- The commands of each station's own lines, each accepted under the station's limits and counted,
-- lead from its first content to this one.
pub record AreLeftFrom (stations : List StationPlan) (firsts cells : List Cell) (log : List Entry) : Type 0 where
  pub count_first : length firsts ≡ length stations
  pub count : length cells ≡ length stations
  pub left : (k : ℕ) (s : StationPlan) (f c : Cell) → slice_get stations k ≡ Some s → slice_get firsts k ≡ Some f
      → slice_get cells k ≡ Some c → IsLeftFrom s.limits f.content c.content (commands_of (of_station k log))

-- Each line of the list was accepted at the content to which the earlier lines of its station lead.
abbrev pub AreAccepted : List StationPlan → List Cell → List Entry → Type 0
AreAccepted stations firsts log = (before : List Entry) (e : Entry) (rest : List Entry) (s : StationPlan) (f : Cell) → log ≡ before ++ e ∷ rest
    → slice_get stations e.station ≡ Some s → slice_get firsts e.station ≡ Some f → IsAcceptedBehind s.limits f.content (of_station e.station before) e.command

-- The passes of each station counted its first changes and one more for each of its lines in the
-- list: as many answers were accepted as there are lines.
abbrev pub AreGiven : List Cell → List Entry → List Held → Type 0
AreGiven firsts log passes = (k : ℕ) (f : Cell) → slice_get firsts k ≡ Some f → changes_of k passes ≡ f.content.changes + length (of_station k log)

-- What came with an answer to a command is what a desk with a journal returns with it, for a line
-- of the command and the bytes in front of it.
abbrev pub IsKeptAnswer : (ℕ → Content) → ℕ → StationPlace → Command → Answer → Option (List Entry) → Type 0
IsKeptAnswer first number at command answer seen = (note line : List ℕ) × (told : Option Known) × IsReceived at (first number) answer (entry number note line command) told seen

-- Moments that came with accepted answers to stations' texts: each is a front of this list of lines. The line of the
-- text's event is the last of that front, and the answer is the ledger's at the content to which the station's earlier
-- lines lead.
pub record AreTextAnswers (first : ℕ → Content) (log : List Entry) : Type 0 where
  pub moments : List (List Entry)
  pub begin : All (λ m. IsPrefix m log) moments
  pub each : All (IsAnswered (IsKeptAnswer first)) moments

-- Moments that came with boards in browsers: each is a front of this list of lines, and its board is that of the
-- contents to which the stations' lines in that front lead.
pub record AreBrowsedBoards (sites : List SitePlan) (stations : List StationPlan) (first : ℕ → Content) (log : List Entry) : Type 0 where
  pub places : List StationPlace
  pub placed : AreNewPlaces sites stations places
  pub moments : List (List Entry)
  pub begin : All (λ m. IsPrefix m log) moments
  pub each : All (IsSeenWithBoards (AreBoardsBehind first places)) moments

-- What a server wrote behind the front of its script, and the boards that it gave at its end. The
-- front ends with these sites and stations, with the contents of the cells `firsts`. There is one
-- list of lines. The writer, which had `before`, took their text and, if a write failed, a front of
-- one more line. Each line speaks for its command on its station, and was accepted at the content
-- to which the earlier lines of the station lead. Each station's own lines lead to its content, and
-- its passes counted one accepted answer for each of them. The moments of accepted answers to stations' texts and of
-- boards in browsers, and the console's answers, belong to this list. The boards are what `replay` answers behind the
-- front and the lines.
pub record IsItsScript (front : List ℕ) (sites : List SitePlan) (stations : List StationPlan) (firsts : List Cell) (before : Option (List ℕ)) (left : Left) (tells : List Entry → Type 0) : Type 0 where
  pub log : List Entry
  pub written : IsWritten left.broken before left.now left.buffer log
  pub cells : List Cell
  pub opened : Shows (after front) sites stations firsts
  pub spoken : All (IsSpoken stations) log
  pub accepted : AreAccepted stations firsts log
  pub each : AreLeftFrom stations firsts cells log
  pub given : AreGiven firsts log left.passes
  pub texts : AreTextAnswers (contents_of firsts) log
  pub browsed : AreBrowsedBoards sites stations (contents_of firsts) log
  pub told : tells log
  pub ended : Shows (after (front ++ text_of log)) sites stations cells
  pub shown : AreAnswers (after (front ++ text_of log)) sites left.boards

-- A server that began anew with this plan: its script is what it wrote, a head that declares the
-- plan's sites and stations, without a change, and its lines. Its answers belong to these sites, to
-- the stations' first contents, and to these lines.
pub record IsNewRun (sites : List SitePlan) (stations : List StationPlan) (before : Option (List ℕ)) (left : Left) (tells : List SitePlan → List Cell → List Entry → Type 0) : Type 0 where
  pub head : List ℕ
  pub read : List SitePlan
  pub firsts : List Cell
  pub declares : Declares sites read firsts
  pub script : IsItsScript head read stations firsts (append_known before head) left (tells read firsts)

-- An input, as far as it is known, begins with these bytes.
abbrev pub Begins : Option (List ℕ) → List ℕ → Type 0
Begins input front = IfSome input (λ bytes. (rest : List ℕ) × (bytes ≡ front ++ rest))

-- A server that was restored: its script is what it read, in whole lines, before the first line
-- `listen`, followed by what it wrote, the first line of a run and its lines. The last line that
-- was read ends with `#`, and none is lost unless that was allowed. Its answers belong to the rest
-- of the input, to these sites and stations, to their first contents, and to these lines.
pub record IsRestoredRun (allows : Bool) (input before : Option (List ℕ)) (left : Left) (tells : Option (List ℕ) → List SitePlan → List StationPlan → List Cell → List Entry → Type 0) : Type 0 where
  pub read : List ℕ
  pub last : List ℕ
  pub rest : Option (List ℕ)
  pub reads : Consumes input rest (read ++ last)
  pub listens : IsListen last
  pub whole : EndsWhole read
  pub marked : marked_by false (lines_of longest_line read) ≡ true
  pub kept : allows ≡ false → loses start (lines_of longest_line read) ≡ false
  pub no_listen : HasNoListen longest_line read
  pub sites : List SitePlan
  pub stations : List StationPlan
  pub firsts : List Cell
  pub script : IsItsScript (read ++ run_begins) sites stations firsts (append_known before run_begins) left (tells rest sites stations firsts)

-- A server that was not restored, since this holds for what it read up to the line `listen`.
abbrev pub IsRefused : Option (List ℕ) → (List ℕ → Type 0) → Type 0
IsRefused input why = (read last : List ℕ) × Begins input (read ++ last) × IsListen last × why read

-- A desk with a journal at its close, with its boards and its passes, and the answers that belong to its list of lines:
-- those to stations' texts, the boards in browsers, and the console's.
pub record IsEnded (name : ℕ → List ℕ) (first : ℕ → Content) (before : Option (List ℕ)) (sites : List SitePlan) (stations : List StationPlan) (left : Left) (tells : List Entry → Type 0) : Type 0 where
  pub cells : List Cell
  pub seen : List (List Entry)
  pub written : IsWrittenDown name first before left.broken left.now left.buffer cells seen
  pub texts : AreTextAnswers first written.log
  pub browsed : AreBrowsedBoards sites stations first written.log
  pub told : tells written.log
  pub given : (k : ℕ) (c : Cell) → slice_get cells k ≡ Some c → c.content.changes ≡ changes_of k left.passes
  pub count : length cells ≡ length stations
  pub limits : (k : ℕ) (s : StationPlan) (c : Cell) → slice_get stations k ≡ Some s → slice_get cells k ≡ Some c → c.limits ≡ s.limits
  pub is : left.boards ≡ boards_text sites stations cells (length sites)

-- The console of a server, which had `before`, took the lines of the ports and then the answers to
-- its operator's lines, at a desk of the plan's stations with their first contents. The moment of
-- the journal with each answer is a front of this list of lines. An accepted command's line is the
-- last of that front, and its answer is the ledger's at the content to which the station's earlier
-- lines lead. A board is that of the contents to which the stations' lines in that front lead.
pub record IsToldOf (sites : List SitePlan) (stations : List StationPlan) (first : ℕ → Content) (log : List Entry) (coming : Option (List Line)) (before now : Option (List ℕ)) : Type 0 where
  pub places : List StationPlace
  pub placed : AreNewPlaces sites stations places
  pub seen : List (List Entry)
  pub begin : All (λ m. IsPrefix m log) seen
  pub tells : Tells (IsKeptAnswer first) (AreBoardsBehind first places) sites places coming before now seen

-- After Ok, `IsToldOf` holds for the console of a server that began anew; its operator's lines are those of
-- this input.
abbrev pub TellsNew : {E : Type 0} → Result (Unit {0}) E → List StationPlan → Option (List ℕ) → Option (List ℕ) → Option (List ℕ) → List SitePlan → List Cell → List Entry → Type 0
TellsNew ended stations input before now read firsts log = OnOk ended (IsToldOf read stations (contents_of firsts) log (lines_in input) before now)

-- After Ok the console of a restored server took first the reports about the script; after them
-- `IsToldOf` holds. Its operator's lines are those of the rest of the input, unless a number of connections ends it.
abbrev pub TellsRestored : {E : Type 0} → Result (Unit {0}) E → Option ℕ → Option (List ℕ) → Option (List ℕ) → Option (List ℕ) → List SitePlan → List StationPlan → List Cell → List Entry → Type 0
TellsRestored ended connections before now rest sites stations firsts log =
    OnOk ended ((reported : Option (List ℕ)) × Grows before reported × IsToldOf sites stations (contents_of firsts) log (lines_in (operator_input connections rest)) reported now)
