use Rattle.std.{specs.Prelude.{ℕ, Bool, List, length, ◌&&◌, ◌||◌, ◌==◌, nat_lt, nat_le, codes}, specs.List.{list_all, list_any}}
use Rattle.ledger_model.specs.Ranges.{most_name_characters}

-- A letter or a digit, or one of * - _ = : + | @ .
abbrev pub is_name_character : ℕ → Bool
is_name_character c =
    (nat_le 65 c && nat_le c 90) || (nat_le 97 c && nat_le c 122) || (nat_le 48 c && nat_le c 57)
    || list_any (λ other. c == other) (codes "*-_=:+|@.")

-- A name of a site or a station has such characters, at least one and no more than it may have.
abbrev pub is_name : List ℕ → Bool
is_name text = nat_lt 0 (length text) && nat_le (length text) most_name_characters && list_all is_name_character text
