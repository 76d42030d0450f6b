use Rattle.std.{specs.Prelude.{ℕ, List, [], ◌∷◌, ◌≡◌, ◌≢◌, ◌<◌, ◌≤◌, ◌+◌, ◌-◌, ◌⊎◌, Some, length, map, sum_by}, specs.List.{flat_map, slice_get}}
use Rattle.energy_flow.specs.Flow.{Energy, no_energy, plus}
use Rattle.ledger_model.{specs.Periods.Periods, specs.declared.figures.Figures.Figures, specs.Figures.figure_at, specs.declared.kind.Kind.Kind, specs.declared.kind.Kind.TheVariants.{Started, Ended}, specs.declared.order.Order.Order, specs.Board.{Board, Flowed, board_by}, specs.Content.Entry, specs.ByDirection.in_each, specs.declared.by_direction.ByDirection.ByDirection, specs.Energy.energy_in_by, specs.Gaps.Gap}

-- Rising numbers: each is below the next.
abbrev pub AreRising : List ℕ → Type 0
AreRising [] = Unit {0}
AreRising (n ∷ []) = Unit {0}
AreRising (n ∷ m ∷ ns) = (n < m) × AreRising (m ∷ ns)

-- A number is in a list.
abbrev pub IsIn : ℕ → List ℕ → Type 0
IsIn n [] = ⊥
IsIn n (m ∷ ms) = (n ≡ m) ⊎ IsIn n ms

-- A number is missing: it is strictly between two live numbers, and is not live.
pub record IsMissing (live : List ℕ) (n : ℕ) : Type 0 where
  pub absent : IsIn n live → ⊥
  pub lower : (low : ℕ) × (IsIn low live × (low < n))
  pub higher : (high : ℕ) × (IsIn high live × (n < high))

-- A number is in one of these gaps.
abbrev pub IsInSome : ℕ → List Gap → Type 0
IsInSome n [] = ⊥
IsInSome n (g ∷ gs) = ((g.0 ≤ n) × (n ≤ g.1)) ⊎ IsInSome n gs

-- Gaps rise and are apart: each ends no lower than it begins, and between two of them is a number that is in neither.
abbrev pub AreApart : List Gap → Type 0
AreApart [] = Unit {0}
AreApart (g ∷ []) = g.0 ≤ g.1
AreApart (g ∷ h ∷ gs) = (g.0 ≤ g.1) × ((g.1 + 1 < h.0) × AreApart (h ∷ gs))

-- These are the maximal ranges of the missing numbers, rising.
pub record AreGaps (live : List ℕ) (gs : List Gap) : Type 0 where
  pub covers : (n : ℕ) → IsMissing live n → IsInSome n gs
  pub within : (n : ℕ) → IsInSome n gs → IsMissing live n
  pub apart : AreApart gs

-- The kinds of the live events of a complete transaction, and how many numbers it misses.
pub record AreComplete (kinds : List Kind) (missing : ℕ) : Type 0 where
  pub lowest : slice_get kinds 0 ≡ Some Started
  pub highest : slice_get kinds (length kinds - 1) ≡ Some Ended
  pub no_start_between : (k : ℕ) → 0 < k → k + 1 < length kinds → slice_get kinds k ≢ Some Started
  pub no_end_between : (k : ℕ) → 0 < k → k + 1 < length kinds → slice_get kinds k ≢ Some Ended
  pub none_missing : missing ≡ 0

-- The sum of energies: of their rises, and of their falls.
abbrev pub sum_of_energies : List Energy → Energy
sum_of_energies [] = no_energy
sum_of_energies (e ∷ es) = plus e (sum_of_energies es)

-- The periods of several stations' boards, one board after the other.
abbrev pub quarters_over : Order → Periods → List (List Entry) → List Flowed
quarters_over order period stations = flat_map (λ es. (board_by order period es).quarters) stations

-- The energies of several stations in a period, added up in each direction.
abbrev pub flows_over : Order → Periods → ℕ → List (List Entry) → ByDirection Energy
flows_over order period quarter stations = in_each (λ d. sum_of_energies (map (energy_in_by order d period quarter) stations))

-- The board with this number of voided events.
abbrev pub with_voided : ℕ → Board → Board
with_voided voided board = record board { figures = record board.figures { voided = voided } }

-- Each figure, by its place in a board's line, is the sum of that figure over these.
abbrev pub AreSums : Figures → List Figures → Type 0
AreSums total fs = (k : ℕ) → figure_at k total ≡ sum_by (figure_at k) fs
