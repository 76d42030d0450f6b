use Rattle.std.proofs.Common.{◌≡◌, ◌+◌, ℕ, ap, arith, get_or, length-set, ◌∙◌}
use Rattle.ledger_model.{specs.Figures.figure_at, proofs.FigureLemmas.{added_figures, put_at}}
use Rattle.ledger_model.proofs.figures.Figures.checked_add.Goals as goal

pub loop-k-preserved : goal.loop-k-preserved
loop-k-preserved c =
    let a = c.args.self.now in
    let b = c.args.other.now in
    let k = c.loop-k.k in
    let i = c.loop-k.invariant in
    let here : c.in_ok-sums.field-0 ≡ figure_at k a + figure_at k b = omega (arith, c.in_ok-sums.ensures.1, i.left k (omega arith), ap (λ l. get_or l k 0) c.to_array-others.ensures) in
    let put = put_at (λ j n. n ≡ figure_at j a + figure_at j b) (λ j n. n ≡ figure_at j a) c.loop-k.sums k c.in_ok-sums.field-0 (omega arith) i.added i.left here in
    record { size = length-set c.loop-k.sums k c.in_ok-sums.field-0 ∙ i.size; added = put.0; left = put.1 }

pub returns-clause-sum : goal.returns-clause-sum
returns-clause-sum c = added_figures _ _ _ _ c.from_array.ensures (λ j within. c.loop-k.invariant.added j (omega arith))
