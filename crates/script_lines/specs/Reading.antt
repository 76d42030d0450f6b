-- What one call reads of a script: a piece of a line, or a line.
use Rattle.std.{specs.Prelude.{◌≡◌, ℕ, ◌+◌, ◌-◌, ◌<◌, ◌≤◌, List, [], ◌∷◌, ◌++◌, length, take}, specs.declared.result.Result.Result, specs.declared.result.Result.TheVariants.{Ok, Err}}
use Rattle.script_lines.{specs.declared.fault.ReplayFault.ReplayFault, specs.declared.fault.ReplayFault.TheVariants.{ReadFault, WriteFault, TooMuchInput, OutOfMemory}, specs.declared.line_reader.piece.Piece.Piece, specs.declared.line_reader.piece.Piece.TheVariants.{End, Beyond, Part, WholeLine}, specs.declared.line_reader.LineEnd.LineEnd, specs.declared.line_reader.LineEnd.TheVariants.{Feed, Input}, specs.Lines.{Line, HasNoFeed, whole, ended}}

-- `read_piece` consumed these bytes, and `held` went from old to new
abbrev pub TakesPiece : ℕ → ℕ → Result Piece ReplayFault → List ℕ → List ℕ → List ℕ → Type 0
TakesPiece max_line_bytes room (Ok End) bytes old new = (bytes ≡ []) × (new ≡ old)
TakesPiece max_line_bytes room (Ok Beyond) bytes old new = (room ≡ 0) × (length bytes ≡ 1)
TakesPiece max_line_bytes room (Ok (Part n d)) bytes old new = (length bytes ≡ n) × (0 < n) × (n ≤ room) × HasNoFeed bytes × (new ≡ take (max_line_bytes + 1) (old ++ bytes))
TakesPiece max_line_bytes room (Ok (WholeLine n d)) bytes old new = (length bytes ≡ n) × (n ≤ room)
    × ((part : List ℕ) × HasNoFeed part × (bytes ≡ part ++ 10 ∷ []) × (new ≡ take (max_line_bytes + 1) (old ++ part)))
TakesPiece max_line_bytes room (Err ReadFault) bytes old new = bytes ≡ []
TakesPiece max_line_bytes room (Err WriteFault) bytes old new = ⊥
TakesPiece max_line_bytes room (Err TooMuchInput) bytes old new = ⊥
TakesPiece max_line_bytes room (Err OutOfMemory) bytes old new = (0 < length bytes) × (length bytes ≤ room) × HasNoFeed (take (length bytes - 1) bytes)

-- `next_line` consumed these bytes, holds `held` of the line, and may still read `left` of `room`
abbrev pub TakesLine : ℕ → ℕ → ℕ → Result LineEnd ReplayFault → List ℕ → List ℕ → Type 0
TakesLine max_line_bytes room left (Ok Feed) bytes held = (length bytes + left ≡ room)
    × ((raw : List ℕ) × HasNoFeed raw × (bytes ≡ raw ++ 10 ∷ []) × (held ≡ take (max_line_bytes + 1) raw))
TakesLine max_line_bytes room left (Ok Input) bytes held = (length bytes + left ≡ room) × HasNoFeed bytes × (held ≡ take (max_line_bytes + 1) bytes)
TakesLine max_line_bytes room left (Err ReadFault) bytes held = (length bytes ≤ room) × HasNoFeed bytes
TakesLine max_line_bytes room left (Err WriteFault) bytes held = (length bytes ≤ room) × HasNoFeed bytes
TakesLine max_line_bytes room left (Err TooMuchInput) bytes held = (length bytes ≡ room + 1) × HasNoFeed (take room bytes)
TakesLine max_line_bytes room left (Err OutOfMemory) bytes held = (0 < length bytes) × (length bytes ≤ room) × HasNoFeed (take (length bytes - 1) bytes)

-- the line of the bytes `raw` with this end
abbrev pub line_of : LineEnd → ℕ → List ℕ → Line
line_of Feed max_line_bytes raw = ended max_line_bytes raw
line_of Input max_line_bytes raw = whole max_line_bytes raw

-- the bytes that were read of a line with this end
abbrev pub line_read : LineEnd → List ℕ → List ℕ
line_read Feed raw = raw ++ 10 ∷ []
line_read Input raw = raw
