-- How a script's bytes are cut into lines, and the text that a machine writes for the lines.
use Rattle.std.{specs.Prelude.{◌≢◌, ℕ, List, [], ◌∷◌, ◌++◌, length, nat_le, ◌==◌, if◌then◌else◌, Some, None, All, Option}, specs.Io.BufRead.strip_last, specs.Option.option_map}
use denote.Ref.{Bor}

-- the bytes of a line, or None if it is too long
abbrev pub Line : Type 0
Line = Option (List ℕ)

-- no byte is a line feed
abbrev pub HasNoFeed : List ℕ → Type 0
HasNoFeed bytes = All (λ b. b ≢ 10) bytes

-- the line of these bytes; it may have at most `most`
abbrev pub whole : ℕ → List ℕ → Line
whole max_line_bytes raw = if nat_le (length raw) max_line_bytes then Some raw else None

-- the line of the bytes before a line feed: its carriage return counts, and is dropped
abbrev pub ended : ℕ → List ℕ → Line
ended max_line_bytes raw = if nat_le (length raw) max_line_bytes then Some (strip_last 13 raw) else None

-- bytes without a line feed at their end are a line if there are any, and keep their carriage
-- return
abbrev pub unended : ℕ → List ℕ → List Line
unended max_line_bytes [] = []
unended max_line_bytes (b ∷ bs) = whole max_line_bytes (b ∷ bs) ∷ []

-- the lines of bytes, after `raw` of the first line was read already; `last` gives the lines of bytes without a
-- line feed at their end
abbrev pub cut : (List ℕ → List Line) → ℕ → List ℕ → List ℕ → List Line
cut last max_line_bytes raw [] = last raw
cut last max_line_bytes raw (b ∷ bs) = if b == 10 then ended max_line_bytes raw ∷ cut last max_line_bytes [] bs else cut last max_line_bytes (raw ++ b ∷ []) bs

-- the lines that end with a line feed
abbrev pub complete_lines : ℕ → List ℕ → List Line
complete_lines max_line_bytes bytes = cut (λ _. []) max_line_bytes [] bytes

-- all lines
abbrev pub lines_of : ℕ → List ℕ → List Line
lines_of max_line_bytes bytes = cut (unended max_line_bytes) max_line_bytes [] bytes

-- what a machine that goes from state to state by `step` writes for lines
abbrev pub text_by : {S : Type 0} → (S → Line → S × List ℕ) → S → List Line → List ℕ
text_by step s [] = []
text_by step s (line ∷ lines) = (step s line).1 ++ text_by step (step s line).0 lines

-- the line that a machine gets
abbrev pub line_bytes : Option (Bor (List ℕ)) → Line
line_bytes line = option_map (λ bytes. bytes.now) line
