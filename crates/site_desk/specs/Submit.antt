use Rattle.std.specs.Prelude.{◌≡◌, ℕ, suc, ◌+◌, ◌<◌, ◌≤◌, ◌^◌, List, [], ◌∷◌, ◌++◌, length, sum, Option, None, Some}
use Rattle.ledger_model.{specs.Periods.Periods, specs.declared.answer.Answer.Answer, specs.declared.answer.Answer.TheVariants.{Accepted, Repeat, Refused}, specs.declared.answer.Refusal.TheVariants.{ConflictingEvent, TooManyTransactions, EventsFull, ReadingsFull, NoSuchEvent, AlreadyVoided, NotVoided, ChangesExhausted}, specs.declared.command.Command.Command, specs.declared.order.Order.Order, specs.Board.{Board, board_by, figures_by}, specs.Content.{Content, entries}, specs.Limits.Bounds, specs.Posts.{Post, row_after}, specs.Step.{Reached, answer, step}}
use Rattle.site_book.specs.Book.{Book, Known, known}
use Rattle.site_desk.{specs.declared.roster.StationPlace.StationPlace, specs.Roster.{IsNamed, StandsAt}, specs.Cell.{Cell, Held, IsInService, Knows, tally_of}, specs.Settle.{Holds, Tied}}
use Rattle.station_ledger.specs.Spent.{most_spent}

-- The command is accepted as change n at this content. The station's row showed the figures of this content, and those
-- of the content after it were posted last.
pub record IsTakenAt (at : StationPlace) (before : Content) (command : Command) (n : ℕ) (told : Option Known) : Type 0 where
  pub answered : answer at.limits before command ≡ Accepted n
  pub posts : List Post
  pub tied : row_after at.row posts ≡ figures_by at.order (entries before)
  pub posted : told ≡ Some (known at.site (posts ++ (at.row, figures_by at.order (entries (step at.limits before command).0)) ∷ []))

-- If this answer to the command is Accepted, the command was accepted at this content; any other
-- answer comes without a `Told`.
abbrev pub TellsOf : StationPlace → Content → Command → Answer → Option Known → Type 0
TellsOf at before command (Accepted n) told = IsTakenAt at before command n told
TellsOf at before command Repeat told = told ≡ None
TellsOf at before command (Refused why) told = told ≡ None

-- The command was accepted as change n at some content that n - 1 accepted commands reach. The
-- station's figures after it were posted last. The pass made one change more, and no more
-- differences of readings were evaluated for it than such a command needs.
pub record IsTaken (at : StationPlace) (p : Held) (command : Command) (n : ℕ) (p' : Held) (told : Option Known) : Type 0 where
  pub before : Content
  pub count : ℕ
  pub number : n ≡ suc count
  pub reached : Reached at.limits count before
  pub taken : IsTakenAt at before command n told
  pub pass : p' ≡ record p { changes = p.changes + 1; work = p'.work }
  pub bound : p'.work ≤ p.work + most_spent at.order before.events command
  pub enough : p'.changes ≤ n

-- The pass is as it was, and there is no `Told`.
pub record IsUnchanged (p p' : Held) (told : Option Known) : Type 0 where
  pub pass : p' ≡ p
  pub untold : told ≡ None

-- This is the answer to the command at some content that accepted commands reach, and nothing changed.
pub record IsAnswered (at : StationPlace) (p : Held) (command : Command) (told_answer : Answer) (p' : Held) (told : Option Known) : Type 0 where
  pub before : Content
  pub reached : Reached at.limits before.changes before
  pub answered : answer at.limits before command ≡ told_answer
  pub unchanged : IsUnchanged p p' told

-- A command of a pass may be judged at this cell of the station of this number and place. With it,
-- what is known of such a cell.
pub record CanJudge (number : ℕ) (at : StationPlace) (c : Cell) (p : Held) : Type 0 where
  pub serves : IsInService c
  pub stands : StandsAt number at c
  pub knows : Knows c (tally_of p)
  pub reached : Reached c.limits c.content.changes c.content
  pub counted : sum c.counts ≡ c.content.changes

-- A command of a pass may be settled at this cell of the station of this number and place. With it,
-- what is known of such a cell.
pub record CanSettle (number : ℕ) (at : StationPlace) (c : Cell) (b : Book) (p : Held) : Type 0 where
  pub stands : StandsAt number at c
  pub site : b.site ≡ at.site
  pub knows : Knows c (tally_of p)
  pub held : Holds c b
  pub room : length b.posts < 2 ^ 62
  pub tied : Tied c b
  pub reached : Reached c.limits c.content.changes c.content
  pub counted : sum c.counts ≡ c.content.changes

-- What follows from a submitted command, at a station of this place.
abbrev pub Submitted : StationPlace → Held → Command → Answer → Held → Option Known → Type 0
Submitted at p command (Accepted n) p' told = IsTaken at p command n p' told
Submitted at p command Repeat p' told = IsAnswered at p command Repeat p' told
Submitted at p command (Refused ChangesExhausted) p' told = IsUnchanged p p' told
Submitted at p command (Refused ConflictingEvent) p' told = IsAnswered at p command (Refused ConflictingEvent) p' told
Submitted at p command (Refused TooManyTransactions) p' told = IsAnswered at p command (Refused TooManyTransactions) p' told
Submitted at p command (Refused EventsFull) p' told = IsAnswered at p command (Refused EventsFull) p' told
Submitted at p command (Refused ReadingsFull) p' told = IsAnswered at p command (Refused ReadingsFull) p' told
Submitted at p command (Refused NoSuchEvent) p' told = IsAnswered at p command (Refused NoSuchEvent) p' told
Submitted at p command (Refused AlreadyVoided) p' told = IsAnswered at p command (Refused AlreadyVoided) p' told
Submitted at p command (Refused NotVoided) p' told = IsAnswered at p command (Refused NotVoided) p' told

-- The board is that of some content that accepted commands reach under these limits, by this length
-- of settlement periods and in this order of readings.
pub record IsBoardWithin (limits : Bounds) (period : Periods) (order : Order) (b : Board) : Type 0 where
  pub content : Content
  pub reached : Reached limits content.changes content
  pub shown : b ≡ board_by order period (entries content)

-- The board is one of the station of this name: that of some content that accepted commands reach
-- under the limits of the station's place, by that place's period and order.
pub record IsBoardOfName (places : List StationPlace) (name : List ℕ) (b : Board) : Type 0 where
  pub number : ℕ
  pub named : IsNamed places name number
  pub board : IsBoardWithin named.place.limits named.place.period named.place.order b
