-- How far a restored script was read, and its result.
use Rattle.std.{specs.Prelude.{◌≡◌, ◌≢◌, ◌&&◌, ◌||◌, ℕ, Bool, true, false, eqb, not, List, [], ◌∷◌, ◌++◌, All, Option, None, Some, codes}, specs.Io.BufRead.{ends_with_byte, strip_last}, specs.Io.KnownBytes.{Appends, Consumes}, specs.List.{ends_with, starts_with}}
use Rattle.script_lines.{specs.Lines.{HasNoFeed, Line, lines_of}, specs.Ranges.longest_line}
use Rattle.script_ledgers.specs.Script.{Script, line_step, start, script_after}
use Rattle.journal_script.{specs.declared.restored.Restored.Restored, specs.Journals.{EndsWhole, Shows}}

-- The bytes are the line `listen`, with the line feed that ends it and perhaps a carriage return before
-- that.
pub record IsListen (bytes : List ℕ) : Type 0 where
  pub raw : List ℕ
  pub feedless : HasNoFeed raw
  pub is : bytes ≡ raw ++ 10 ∷ []
  pub last : strip_last 13 raw ≡ codes "listen"

-- The consumed bytes end with the line `listen`, and this holds for the bytes before it.
abbrev pub ReadsToListen : Option (List ℕ) → Option (List ℕ) → (List ℕ → Type 0) → Type 0
ReadsToListen before after holds = (read last : List ℕ) × Consumes before after (read ++ last) × IsListen last × holds read

-- Bytes were appended.
abbrev pub Grows : Option (List ℕ) → Option (List ℕ) → Type 0
Grows before now = (more : List ℕ) × Appends before now more

-- The first line of a run, a comment.
abbrev pub run_line : List ℕ
run_line = codes "# a run of ocpp_board begins"

-- Whether a line ends with `#`. One that is too long doesn't.
abbrev pub is_marked : Line → Bool
is_marked None = false
is_marked (Some bytes) = ends_with_byte 35 bytes

-- Whether the last of these lines ends with `#`; if there are none, as before.
abbrev pub marked_by : Bool → List Line → Bool
marked_by before [] = before
marked_by before (line ∷ lines) = marked_by (is_marked line) lines

-- Whether a line ends as one that a kill cut: with the mark of a restore, or with the next run's first line.
abbrev pub is_cut : Line → Bool
is_cut None = false
is_cut (Some bytes) = ends_with_byte 35 bytes || ends_with eqb bytes run_line

-- Whether the answer to a line says that the line changed nothing: a fault, a refusal or a
-- CALLERROR, as `msg` or as `deliver` writes it.
abbrev pub leaves_nothing : List ℕ → Bool
leaves_nothing reply = starts_with eqb reply (codes "fault ") || (starts_with eqb reply (codes "refused ") || (starts_with eqb reply (codes "[4,") || starts_with eqb reply (codes "reply [4,")))

-- Whether a line with this answer is lost: it changed nothing, and no kill cut it.
abbrev pub is_lost : List ℕ → Line → Bool
is_lost reply line = leaves_nothing reply && not (is_cut line)

-- Whether one of these lines is lost.
abbrev pub loses : Script → List Line → Bool
loses s [] = false
loses s (line ∷ lines) = is_lost (line_step s line).1 line || loses (line_step s line).0 lines

-- No line of the script is `listen`.
abbrev pub HasNoListen : ℕ → List ℕ → Type 0
HasNoListen most read = All (λ line. line ≢ Some (codes "listen")) (lines_of most read)

-- The script was read, and the result has its stations with the contents that it leads to. Its last
-- line ends with `#`, none is `listen`, and the result says whether one is lost.
pub record IsRestored (read : List ℕ) (r : Restored) : Type 0 where
  pub whole : EndsWhole read
  pub marked : marked_by false (lines_of longest_line read) ≡ true
  pub no_listen : HasNoListen longest_line read
  pub loses : r.has_lost ≡ loses start (lines_of longest_line read)
  pub shows : Shows (script_after start (lines_of longest_line read)) r.draft.sites r.draft.stations r.cells.items

-- The script was read, and its last line doesn't end with `#`.
pub record IsUnmarked (read : List ℕ) : Type 0 where
  pub whole : EndsWhole read
  pub unmarked : marked_by false (lines_of longest_line read) ≡ false
  pub no_listen : HasNoListen longest_line read
