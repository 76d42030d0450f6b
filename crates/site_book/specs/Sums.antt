use Rattle.std.specs.Prelude.{ℕ, ◌≤◌, ◌<◌, ◌^◌}
use Rattle.ledger_model.{specs.declared.figures.Figures.Figures, specs.Figures.figure_at}

-- Each figure fits in a word.
abbrev pub AreWords : Figures → Type 0
AreWords f = (k : ℕ) → figure_at k f < 2 ^ 64

-- Each figure of the one is at most that of the other.
abbrev pub AreAtMost : Figures → Figures → Type 0
AreAtMost f g = (k : ℕ) → figure_at k f ≤ figure_at k g
