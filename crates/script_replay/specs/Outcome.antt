-- The bytes that a replay has read and written when it ends.
use Rattle.std.{specs.Prelude.{◌≡◌, ℕ, ◌+◌, ◌-◌, ◌<◌, ◌≤◌, ◌⊎◌, List, [], ◌++◌, length, take, OnSome, Option}, specs.Io.KnownBytes.{Appends, Consumes, IsAtEnd}, specs.declared.result.Result.Result, specs.declared.result.Result.TheVariants.{Ok, Err}}
use Rattle.script_lines.{specs.declared.fault.ReplayFault.ReplayFault, specs.declared.fault.ReplayFault.TheVariants.{ReadFault, WriteFault, TooMuchInput, OutOfMemory}, specs.Lines.{Line, cut, complete_lines, lines_of}, specs.Ranges.longest_line}
use Rattle.script_ledgers.{specs.Ranges.longest_script, specs.Script.{start, script_text}}

-- `written` is a front of the text of the complete lines or, if all of the input was read, of the text of all lines
abbrev pub WritesFrontOf : Type 0 → (List Line → List ℕ) → ℕ → List ℕ → List ℕ → Type 0
WritesFrontOf all_read text max_line_bytes read written =
    ((rest : List ℕ) × (text (complete_lines max_line_bytes read) ≡ written ++ rest))
    ⊎ (all_read × ((rest : List ℕ) × (text (lines_of max_line_bytes read) ≡ written ++ rest)))

-- `written` is what a replay writes that ends with this result after the bytes `read`. It reads at most `limit`
-- bytes; these are all of the input if `all_read` holds. After Ok it is the text of all lines; after a ReadFault or
-- TooMuchInput that of the complete lines; after a WriteFault a front of the text of the complete lines, or of all
-- lines if all of the input was read; after OutOfMemory the text of the lines before that of the last byte read
abbrev pub Replays : {T : Type 0} → Type 0 → (List Line → List ℕ) → ℕ → ℕ → Result T ReplayFault → List ℕ → List ℕ → Type 0
Replays all_read text max_line_bytes limit (Ok _) read written = (length read ≤ limit) × (written ≡ text (lines_of max_line_bytes read))
Replays all_read text max_line_bytes limit (Err ReadFault) read written = (length read ≤ limit) × (written ≡ text (complete_lines max_line_bytes read))
Replays all_read text max_line_bytes limit (Err TooMuchInput) read written = (length read ≡ limit + 1) × (written ≡ text (complete_lines max_line_bytes (take limit read)))
Replays all_read text max_line_bytes limit (Err WriteFault) read written = (length read ≤ limit) × WritesFrontOf all_read text max_line_bytes read written
Replays all_read text max_line_bytes limit (Err OutOfMemory) read written = (length read ≤ limit) × (written ≡ text (complete_lines max_line_bytes (take (length read - 1) read)))

-- a replay of a script consumed bytes and wrote bytes: those that it writes when it ends with this
-- result
abbrev pub IsReplay : Option (List ℕ) → Option (List ℕ) → Option (List ℕ) → Option (List ℕ) → Result (Unit {0}) ReplayFault → Type 0
IsReplay r0 r1 w0 w1 result =
    (read written : List ℕ) × Consumes r0 r1 read × Appends w0 w1 written × Replays (OnSome r0 (IsAtEnd r1)) (script_text start) longest_line longest_script result read written

-- the text of a script of these bytes
abbrev pub text_of : List ℕ → List ℕ
text_of script = script_text start (lines_of longest_line script)

-- memory ran out after a byte was read
abbrev pub Began : {T : Type 0} → Result T ReplayFault → List ℕ → Type 0
Began (Ok _) read = Unit {0}
Began (Err ReadFault) read = Unit {0}
Began (Err TooMuchInput) read = Unit {0}
Began (Err WriteFault) read = Unit {0}
Began (Err OutOfMemory) read = 0 < length read

-- `written` answers the lines of `done`, each of which ends with a line feed, and `now` is the text of the lines after
-- them
abbrev pub AnsweredBy : (List Line → List ℕ) → (List Line → List ℕ) → ℕ → List ℕ → List ℕ → Type 0
AnsweredBy old now max_line_bytes done written =
    (last : List ℕ → List Line) (more : List ℕ) → old (cut last max_line_bytes [] (done ++ more)) ≡ written ++ now (cut last max_line_bytes [] more)
