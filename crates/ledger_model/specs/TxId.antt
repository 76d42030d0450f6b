use Rattle.std.{specs.Prelude.{◌≡◌, ℕ, Bool, true, List, length, map, ◌+◌, ◌&&◌, nat_lt, nat_le, if◌then◌else◌}, specs.List.list_all}
use Rattle.ledger_model.specs.Ranges.{most_id_characters}

-- A printing ASCII character other than the blank.
abbrev pub is_visible : ℕ → Bool
is_visible c = nat_le 33 c && nat_le c 126

-- A to Z turned into a to z, all else as it is.
abbrev pub folded_byte : ℕ → ℕ
folded_byte c = if nat_le 65 c && nat_le c 90 then c + 32 else c

-- A text with each A to Z turned into a to z.
abbrev pub folded : List ℕ → List ℕ
folded text = map folded_byte text

-- A transaction id has visible ASCII characters, at least one and no more than it may have.
abbrev pub is_tx_id : List ℕ → Bool
is_tx_id text = nat_lt 0 (length text) && nat_le (length text) most_id_characters && list_all is_visible text

-- An id as it is kept: a transaction may have it, and to fold it changes nothing.
pub record IsFoldedId (id : List ℕ) : Type 0 where
  pub valid : is_tx_id id ≡ true
  pub lower : folded id ≡ id
