-- How an operator's lines come, and which of them get an answer.
use Rattle.std.{specs.Prelude.{◌≡◌, ℕ, ⊤, Bool, false, true, List, [], ◌∷◌, Option, None, Some, codes, if◌then◌else◌, option_map}, specs.Str.bytes_eq}
use Rattle.script_lines.{specs.Lines.{Line, lines_of}, specs.Ranges.longest_line, specs.declared.line_reader.LineEnd.LineEnd, specs.declared.line_reader.LineEnd.TheVariants.{Feed, Input}}
use Rattle.running_desk.specs.declared.orders.Came.{Came}
use Rattle.running_desk.specs.declared.orders.Came.TheVariants as came

-- What came, by the end of a line and its bytes: no line, if the input ended and there are no bytes.
abbrev pub came_of : LineEnd → List ℕ → Came
came_of Feed held = came.Line
came_of Input [] = came.End
came_of Input (b ∷ bs) = came.LastLine

-- The lines of these bytes, if the bytes are known.
abbrev pub lines_in : Option (List ℕ) → Option (List Line)
lines_in bytes = option_map (lines_of longest_line) bytes

-- What comes next: the first of the lines to come, the last of them, or nothing more; and the lines still to come after
-- it.
abbrev pub Gives : List Line → Came → Line → List Line → Type 0
Gives lines came.Line line rest = lines ≡ line ∷ rest
Gives lines came.LastLine line rest = (lines ≡ line ∷ []) × (rest ≡ [])
Gives lines came.End line rest = (lines ≡ []) × (rest ≡ [])

-- The same, if it is known which lines are to come.
abbrev pub Comes : Option (List Line) → Came → Line → Option (List Line) → Type 0
Comes None came line now = ⊤
Comes (Some lines) came line None = ⊥
Comes (Some lines) came line (Some rest) = Gives lines came line rest

-- Whether a line says `close`.
abbrev pub is_close : Line → Bool
is_close None = false
is_close (Some bytes) = bytes_eq bytes (codes "close")

-- Whether what came ends the server: a line that says `close`, or the end of the input.
abbrev pub ends : Came → Line → Bool
ends came.Line line = is_close line
ends came.LastLine line = is_close line
ends came.End line = true

-- The lines in front of the first that says `close`, or all if none does.
abbrev pub before_close : List Line → List Line
before_close [] = []
before_close (line ∷ lines) = if is_close line then [] else line ∷ before_close lines

-- These are the lines that get an answer, if it is known which lines come: those in front of `close`.
abbrev pub AreAnswered : Option (List Line) → List Line → Type 0
AreAnswered None lines = ⊤
AreAnswered (Some coming) lines = lines ≡ before_close coming
