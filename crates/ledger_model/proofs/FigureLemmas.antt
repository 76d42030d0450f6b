-- Figures are added up place by place, so what holds of each place holds of all.
use Rattle.std.{proofs.Common.{◌≡◌, ℕ, zero, suc, ◌<◌, ◌≤◌, ◌*◌, List, [], ◌∷◌, ◌+◌, length, refl, ap, sym, ◌∙◌, arith, map, get_or, rules, ◌≢◌, below_more, get_or-set_other, get_or-set_same}, specs.List.{AllByRecursion, zip}, specs.Prelude.sum_by, proofs.lemmas.List.Recursion.is_sum_by, proofs.lemmas.Grind.same_number_lists, proofs.Math.ListN.set}
use Rattle.ledger_model.{specs.Periods.Periods, specs.declared.figures.TheConstants.FIGURES, specs.declared.figures.Figures.Figures, specs.Limits.Bounds, specs.Ranges.{greatest_reading, sequence_end}, specs.Figures.{figure_at, figure_list, figures_from, no_figures, AreWithin}, specs.Board.{Board, plus_figures, sum_of_figures, site_board}, specs.BoardLaws.AreSums}

-- a place of two lists' sums is the sum of that place
place_of_sums : (ms ns : List ℕ) → length ms ≡ length ns → (k : ℕ) → get_or (map (λ p. p.0 + p.1) (zip ms ns)) k 0 ≡ get_or ms k 0 + get_or ns k 0
place_of_sums [] [] same k = refl
place_of_sums [] (n ∷ ns) same k = absurd (omega arith)
place_of_sums (m ∷ ms) [] same k = absurd (omega arith)
place_of_sums (m ∷ ms) (n ∷ ns) same zero = refl
place_of_sums (m ∷ ms) (n ∷ ns) same (suc k) = place_of_sums ms ns (omega arith) k

pub at_plus : (k : ℕ) (a b : Figures) → figure_at k (plus_figures a b) ≡ figure_at k a + figure_at k b
at_plus k a b = place_of_sums (figure_list a) (figure_list b) refl k

-- no place of numbers that are at most so much is more
at_most : (most : ℕ) (ns : List ℕ) → AllByRecursion (λ n. n ≤ most) ns → (k : ℕ) → get_or ns k 0 ≤ most
at_most most [] few k = omega arith
at_most most (n ∷ ns) few zero = few.0
at_most most (n ∷ ns) few (suc k) = at_most most ns few.1 k

pub at_none : (k : ℕ) → figure_at k no_figures ≡ 0
at_none k = omega (arith, at_most 0 (figure_list no_figures) (search rules) k)

-- a figure of the sum is the sum of that figure
pub at_sum : (k : ℕ) (fs : List Figures) → figure_at k (sum_of_figures fs) ≡ sum_by (figure_at k) fs
at_sum k fs = is_sum_by (λ fs. figure_at k (sum_of_figures fs)) (figure_at k) (at_none k) (λ f fs. at_plus k f (sum_of_figures fs)) fs

pub figures-AreSums : (fs : List Figures) → AreSums (sum_of_figures fs) fs
figures-AreSums fs k = at_sum k fs

pub site-AreSums : (period : Periods) (stations : List (List ℕ × Board)) → AreSums (site_board period stations).figures (map (λ s. s.1.figures) stations)
site-AreSums period stations k = at_sum k (map (λ s. s.1.figures) stations)

-- what a figure of a station of these limits is at most
abbrev pub most_figure : Bounds → ℕ
most_figure limits = limits.events + sequence_end * limits.transactions + greatest_reading * limits.readings

pub few_at : (limits : Bounds) (f : Figures) → AreWithin limits f → (k : ℕ) → figure_at k f ≤ most_figure limits
few_at limits f within k = at_most (most_figure limits) (figure_list f) (search rules) k

-- equal at each place
pub same_figures : (a b : Figures) → ((k : ℕ) → k < FIGURES → figure_at k a ≡ figure_at k b) → a ≡ b
same_figures a b each = ap figures_from (same_number_lists (figure_list a) (figure_list b) refl each)

-- one number more is put in its place: what holds of those before, and of those behind
pub put_at : (P Q : ℕ → ℕ → Type 0) (ns : List ℕ) (k n : ℕ) → k < length ns → ((j : ℕ) → j < k → P j (get_or ns j 0)) → ((j : ℕ) → k ≤ j → Q j (get_or ns j 0))
    → P k n → ((j : ℕ) → j < k + 1 → P j (get_or (set ns k n) j 0)) × ((j : ℕ) → k + 1 ≤ j → Q j (get_or (set ns k n) j 0))
put_at P Q ns k n within front behind here = (
  below_more (λ j. P j (get_or (set ns k n) j 0)) k (λ j less. let other : j ≢ k = omega arith in rw get_or-set_other (front j less)) (rw get_or-set_same here),
  λ j more. let other : j ≢ k = omega arith in rw get_or-set_other (behind j (omega arith)),
)

-- figures that were added place by place
pub added_figures : (a b f : Figures) (sums : List ℕ) → figure_list f ≡ sums → ((k : ℕ) → k < FIGURES → get_or sums k 0 ≡ figure_at k a + figure_at k b) → f ≡ plus_figures a b
added_figures a b f sums is each = same_figures f (plus_figures a b) (λ k within. ap (λ l. get_or l k 0) is ∙ each k within ∙ sym (at_plus k a b))

-- figures that were replaced place by place
pub replaced_figures : (totals old new f : Figures) (sums : List ℕ) → figure_list f ≡ sums
    → ((k : ℕ) → k < FIGURES → get_or sums k 0 + figure_at k old ≡ figure_at k totals + figure_at k new) → plus_figures f old ≡ plus_figures totals new
replaced_figures totals old new f sums is each =
    same_figures _ _ (λ k within. at_plus k f old ∙ ap (λ l. get_or l k 0 + figure_at k old) is ∙ each k within ∙ sym (at_plus k totals new))
