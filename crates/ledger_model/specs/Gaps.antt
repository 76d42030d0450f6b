use Rattle.std.{specs.Prelude.{ℕ, List, Option, None, Some, ◌+◌, ◌-◌, nat_lt, if◌then◌else◌, map, drop, sum_by}, specs.List.{zip, filter_map}}
use Rattle.ledger_model.specs.Content.{Entry, live_of}

-- The live numbers of a transaction, rising.
abbrev pub numbers_of : List ℕ → List Entry → List ℕ
numbers_of tx es = map (λ e. e.0.seq) (live_of tx es)

-- A range of numbers, both ends in it.
abbrev pub Gap : Type 0
Gap = ℕ × ℕ

-- What is missing between a number and the next one.
abbrev pub gap_between : ℕ × ℕ → Option Gap
gap_between p = if nat_lt (p.0 + 1) p.1 then Some (p.0 + 1, p.1 - 1) else None

-- The gaps of rising numbers: what is missing between each number and the next.
abbrev pub gaps : List ℕ → List Gap
gaps numbers = filter_map gap_between (zip numbers (drop 1 numbers))

-- How many numbers are in a gap.
abbrev pub gap_size : Gap → ℕ
gap_size g = g.1 + 1 - g.0

-- How many numbers are missing.
abbrev pub missing : List ℕ → ℕ
missing numbers = sum_by gap_size (gaps numbers)
