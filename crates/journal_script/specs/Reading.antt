-- How a script is read line by line, up to the line `listen`.
use Rattle.std.{specs.Prelude.{◌≡◌, ◌≢◌, ◌||◌, ℕ, ◌+◌, Bool, true, false, List, [], ◌∷◌, ◌++◌, codes, length, take, Option, Some}, specs.Io.BufRead.strip_last, specs.Io.KnownBytes.Consumes}
use Rattle.script_lines.{specs.declared.line_reader.LineEnd.TheVariants.Feed, specs.declared.line_reader.LineReader.LineReader, specs.Lines.{HasNoFeed, Line, lines_of}, specs.Ranges.longest_line, specs.Reading.line_of}
use Rattle.script_ledgers.specs.Script.{Script, line_step, start}
use Rattle.journal_script.{specs.declared.left_out.LeftOut.LeftOut, specs.declared.restored.Restored.Restored, specs.declared.source.Source.Source, specs.Journals.{EndsWhole, Shows}, specs.Restoring.{HasNoListen, IsListen, is_lost, is_marked}}

-- How far a script was read: its state, whether its last line ends with `#`, and whether a line is
-- lost.
pub record Standing : Type 0 where
  pub script : Script
  pub marked : Bool
  pub lost : Bool

abbrev pub standing : Script → LeftOut → Standing
standing script told = record { script = script; marked = told.is_marked; lost = told.has_lost }

-- Before the first line.
abbrev pub begun : Standing
begun = record { script = start; marked = false; lost = false }

-- A line more.
abbrev pub read_line : Standing → Line → Standing
read_line s line = record { script = (line_step s.script line).0; marked = is_marked line; lost = s.lost || is_lost (line_step s.script line).1 line }

abbrev pub read_lines : Standing → List Line → Standing
read_lines s [] = s
read_lines s (line ∷ lines) = read_lines (read_line s line) lines

-- One line was read, to its line feed: at most one byte more than a line may have of `raw` is held,
-- and `left` of `room` may still be read. It is `listen` exactly if `more` is false.
pub record ReadsLine (most room left : ℕ) (more : Bool) (bytes held : List ℕ) : Type 0 where
  pub raw : List ℕ
  pub feedless : HasNoFeed raw
  pub is : bytes ≡ raw ++ 10 ∷ []
  pub kept : held ≡ take (most + 1) raw
  pub counted : length bytes + left ≡ room
  pub last : more ≡ false → strip_last 13 raw ≡ codes "listen"
  pub other : more ≡ true → line_of Feed most held ≢ Some (codes "listen")

-- These bytes of a script were read, none of their lines is `listen`, and they lead from the old state to the new one.
pub record Runs (most : ℕ) (old new : Standing) (read : List ℕ) : Type 0 where
  pub whole : EndsWhole read
  pub ran : new ≡ read_lines old (lines_of most read)
  pub no_listen : HasNoListen most read

-- A loop over lines ended with `listen`, behind these bytes.
pub record ReadsTo (most : ℕ) (old new : Standing) (r0 r1 : Option (List ℕ)) : Type 0 where
  pub read : List ℕ
  pub last : List ℕ
  pub runs : Runs most old new read
  pub listens : IsListen last
  pub consumed : Consumes r0 r1 (read ++ last)

-- The line that the reader holds.
abbrev pub held_line : LineReader → Line
held_line lines = line_of Feed lines.max_line_bytes lines.held.items

-- A reader of lines took one more line.
abbrev pub TakesLine : Bool → LineReader → LineReader → Option (List ℕ) → Option (List ℕ) → Type 0
TakesLine more before after r0 r1 = (bytes : List ℕ) × Consumes r0 r1 bytes × ReadsLine before.max_line_bytes before.room after.room more bytes after.held.items

-- A place in a script: how far it was read, and the reader of its lines.
pub record Place : Type 0 where
  pub standing : Standing
  pub lines : LineReader

-- The place of a script in this state, with this source for the lines to come.
abbrev pub place : Script → Source → Place
place script source = record { standing = standing script source.left_out; lines = source.lines }

-- A place, after the line that the reader holds was taken.
abbrev pub read_on : Place → Place
read_on p = record { standing = read_line p.standing (held_line p.lines); lines = p.lines }

-- The result of a script that was read so far: the restored contents, whether a line is lost, and whether the last one
-- ends with `#`.
pub record IsLeft (s : Standing) (r : Restored) (marked : Bool) : Type 0 where
  pub shows : Shows s.script r.draft.sites r.draft.stations r.cells.items
  pub loses : r.has_lost ≡ s.lost
  pub ends : marked ≡ s.marked

-- A script was read up to `listen`, and this is its result.
pub record Leaves (r0 r1 : Option (List ℕ)) (r : Restored) (marked : Bool) : Type 0 where
  pub standing : Standing
  pub reads : ReadsTo longest_line begun standing r0 r1
  pub left : IsLeft standing r marked
