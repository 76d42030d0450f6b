-- Integers: numbers of RFC 8259 without a point and without an exponent.
use Rattle.std.{specs.Prelude.{ℕ, Bool, ◌&&◌, ◌==◌, List, length, drop, slice_index, nat_lt, if◌then◌else◌}, specs.Char.is_ascii_digit, specs.List.list_all}

-- The token without a leading `-`.
abbrev pub without_minus : List ℕ → List ℕ
without_minus token = drop (if slice_index token 0 == 45 then 1 else 0) token

-- Only digits, with or without a leading `-`.
abbrev pub is_integer : List ℕ → Bool
is_integer token = nat_lt 0 (length (without_minus token)) && list_all is_ascii_digit (without_minus token)
