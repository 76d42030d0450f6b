-- What the steps of the marking compute.
use Rattle.std.specs.Prelude.{◌≡◌, ◌≤◌, ◌<◌, ◌+◌, ◌*◌, ◌==◌, ℕ, suc, List, [], ◌∷◌, length, take, drop, slice_index, Bool, true, false, if◌then◌else◌}
use Rattle.marked_json.specs.Marking.{Marks, with_front, marked, outside, begins_number}

-- how many bytes a string has from here on, its closing quote included
unfoldable pub string_len : Bool → List ℕ → ℕ
string_len escaped [] = 0
string_len true (c ∷ cs) = suc (string_len false cs)
string_len false (c ∷ cs) = if c == 34 then 1 else suc (string_len (c == 92) cs)

-- what was written, and then the marked text of the rest
abbrev pub completed : List ℕ → List ℕ → Marks
completed written rest = with_front written (marked outside rest)

-- so few bytes are put at a place of a text that there is room for all to come: the room has five bytes for every
-- two of the text, since a number of one byte gets three more and no other number follows it directly
abbrev pub IsWithinRoom : ℕ → List ℕ → ℕ → Type 0
IsWithinRoom len text at =
    (2 * len ≤ 5 * at + 3) × (at < length text → begins_number (slice_index text at) ≡ true → 2 * len ≤ 5 * at)

-- a step from a place, with `len` bytes put, to the number of bytes put then and the next place: it puts what it
-- should, goes on within the text, and leaves room for all to come
pub record IsStep (text before after : List ℕ) (len at : ℕ) (next : ℕ × ℕ) : Type 0 where
  pub same : completed (take next.0 after) (drop next.1 text) ≡ completed (take len before) (drop at text)
  pub forward : at < next.1
  pub within : next.1 ≤ length text
  pub few : IsWithinRoom next.0 text next.1
