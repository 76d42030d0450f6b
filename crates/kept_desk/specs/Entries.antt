use Rattle.std.specs.Prelude.{◌≡◌, ℕ, ◌≤◌, List, [], ◌∷◌, ◌++◌, ◌==◌, ◌⊎◌, codes, filter, length}
use Rattle.kept_desk.{specs.declared.entry.Entry.Entry, specs.declared.line.Line.Line, specs.declared.line.Line.TheVariants.{Bytes, Message}}
use Rattle.ledger_model.specs.declared.command.Command.{Command}
use Rattle.script_lines.{specs.Lines.HasNoFeed, specs.Ranges.longest_line}

-- The entry of a station's line, with the note in front of it and the line's command.
abbrev pub entry : ℕ → List ℕ → List ℕ → Command → Entry
entry station note line command = record { station = station; note = note; line = line; command = command }

-- The entries of one station, in their order.
abbrev pub of_station : ℕ → List Entry → List Entry
of_station station entries = filter (λ e. e.station == station) entries

-- The line `msg <name> <text>`.
abbrev pub message_text : List ℕ → List ℕ → List ℕ
message_text name text = codes "msg " ++ (name ++ 32 ∷ text)

-- The bytes of a line.
abbrev pub bytes_of : Line → List ℕ
bytes_of (Bytes bytes) = bytes.now
bytes_of (Message name text) = message_text name.now text.now

-- The text of a line: its bytes and a line feed.
abbrev pub line_text : List ℕ → List ℕ
line_text line = line ++ 10 ∷ []

-- These bytes are one comment line, no longer than a line may be: `#`, the bytes behind it, and the line feed that ends
-- it.
pub record IsComment (bytes : List ℕ) : Type 0 where
  pub said : List ℕ
  pub feedless : HasNoFeed said
  pub short : length (35 ∷ said) ≤ longest_line
  pub is : bytes ≡ line_text (35 ∷ said)

-- What may be in front of a line: nothing, or a comment line.
abbrev pub IsNote : List ℕ → Type 0
IsNote note = (note ≡ []) ⊎ IsComment note

-- The text of an entry: its note, and the text of its line.
abbrev pub entry_text : Entry → List ℕ
entry_text e = e.note ++ line_text e.line

-- The text of entries, one after the other.
abbrev pub text_of : List Entry → List ℕ
text_of [] = []
text_of (e ∷ entries) = entry_text e ++ text_of entries
