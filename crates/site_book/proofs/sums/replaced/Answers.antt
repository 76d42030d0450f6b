use Rattle.std.proofs.Common.{◌≡◌, ◌+◌, ◌≤◌, ◌-◌, ℕ, ap, arith, get_or, length-set, ◌∙◌}
use Rattle.ledger_model.{specs.Figures.figure_at, proofs.FigureLemmas.{at_plus, put_at, replaced_figures}}
use Rattle.site_book.proofs.sums.replaced.Goals as goal

pub overflow_add-sums : goal.overflow_add-sums
overflow_add-sums c =
    let k = c.loop-k.k in
    omega (arith, c.loop-k.invariant.left k (omega arith), ap (λ l. get_or l k 0) c.to_array-is.ensures, c.requires.words k, at_plus k c.args.totals.now c.args.new.now)

pub overflow_sub-sums : goal.overflow_sub-sums
overflow_sub-sums c =
    let k = c.loop-k.k in
    let is = ap (λ l. get_or l k 0) c.to_array-is.ensures in
    let was = ap (λ l. get_or l k 0) c.to_array-was.ensures in
    omega (arith, c.loop-k.invariant.left k (omega arith), is, was, c.requires.old k, at_plus k c.args.totals.now c.args.new.now)

pub loop-k-preserved : goal.loop-k-preserved
loop-k-preserved c =
    let k = c.loop-k.k in
    let i = c.loop-k.invariant in
    let sums = c.loop-k.sums in
    let now = get_or sums k 0 + get_or c.to_array-is.result k 0 - get_or c.to_array-was.result k 0 in
    let is = ap (λ l. get_or l k 0) c.to_array-is.ensures in
    let was = ap (λ l. get_or l k 0) c.to_array-was.ensures in
    let here : now + figure_at k c.args.old.now ≡ figure_at k c.args.totals.now + figure_at k c.args.new.now =
    omega (arith, i.left k (omega arith), is, was, c.requires.old k, at_plus k c.args.totals.now c.args.new.now) in
    let put = put_at (λ j n. n + figure_at j c.args.old.now ≡ figure_at j c.args.totals.now + figure_at j c.args.new.now) (λ j n. n ≡ figure_at j c.args.totals.now)
    sums k now (omega arith) i.replaced i.left here in
    record { size = length-set sums k now ∙ i.size; replaced = put.0; left = put.1 }

pub returns : goal.returns
returns c = replaced_figures _ _ _ _ _ c.from_array.ensures (λ j within. c.loop-k.invariant.replaced j (omega arith))
