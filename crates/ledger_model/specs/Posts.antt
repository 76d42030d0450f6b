use Rattle.std.{specs.Prelude.{ℕ, Bool, List, [], ◌∷◌, ◌==◌, if◌then◌else◌}, specs.List.list_any}
use Rattle.ledger_model.{specs.declared.figures.Figures.Figures, specs.Figures.no_figures, specs.Board.plus_figures}

-- A post: the row of a station in its site's book, and the figures that are written to it.
abbrev pub Post : Type 0
Post = ℕ × Figures

-- Whether something was posted for a row.
abbrev pub has_post : ℕ → List Post → Bool
has_post row posts = list_any (λ p. p.0 == row) posts

-- The row after posts: the last figures posted for it, all zero before any.
abbrev pub row_after : ℕ → List Post → Figures
row_after row [] = no_figures
row_after row (p ∷ ps) = if has_post row ps then row_after row ps else (if p.0 == row then p.1 else no_figures)

-- The totals after posts: the sums over the rows; for each row the last post counts.
abbrev pub totals_after : List Post → Figures
totals_after [] = no_figures
totals_after (p ∷ ps) = if has_post p.0 ps then totals_after ps else plus_figures p.1 (totals_after ps)
