-- The bytes of a script that belong to one transaction of one station.
use Rattle.std.specs.Prelude.{ℕ, ◌==◌, List, [], ◌∷◌, ◌++◌, if◌then◌else◌}
use Rattle.script_ledgers.specs.Script.{Script, line_step, script_after, start}
use Rattle.script_lines.{specs.LineMeaning.line_meaning, specs.Lines.{Line, lines_of}}
use Rattle.transaction_scripts.specs.LoneScripts.{stays}

-- Bytes without a line feed behind the last line feed are a line if there are any.
abbrev pub last_line : List ℕ → List (List ℕ)
last_line [] = []
last_line (b ∷ bs) = (b ∷ bs) ∷ []

-- The bytes of a script cut behind each line feed, after `raw` of the first line: its lines as they are written.
abbrev pub written_lines : List ℕ → List ℕ → List (List ℕ)
written_lines raw [] = last_line raw
written_lines raw (b ∷ bs) = if b == 10 then (raw ++ b ∷ []) ∷ written_lines [] bs else written_lines (raw ++ b ∷ []) bs

-- The bytes of the lines that stay, of these lines as they are written.
abbrev pub lone_bytes : List ℕ → List ℕ → Script → List Line → List (List ℕ) → List ℕ
lone_bytes name tx s (line ∷ lines) (written ∷ rest) =
    if stays name tx s (line_meaning line) then written ++ lone_bytes name tx (line_step s line).0 lines rest else lone_bytes name tx (line_step s line).0 lines rest
lone_bytes name tx s _ _ = []

-- The script of a transaction alone: the bytes of a script's lines that stay.
abbrev pub lone_script : ℕ → List ℕ → List ℕ → List ℕ → List ℕ
lone_script max_line_bytes name tx bytes = lone_bytes name tx start (lines_of max_line_bytes bytes) (written_lines [] bytes)

-- What the script of these bytes leaves.
abbrev pub end_of_script : ℕ → List ℕ → Script
end_of_script max_line_bytes bytes = script_after start (lines_of max_line_bytes bytes)
