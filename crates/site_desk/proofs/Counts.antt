-- The counts of a cell's passes.
use Rattle.std.{proofs.Common.{◌≡◌, ℕ, suc, ◌+◌, ◌≤◌, List, get_or, set, sum, Some, ap, sym, ◌∙◌, subst, arith, length-set}, specs.Prelude.slice_get, proofs.lemmas.List.Sums.{sum_by-set, get_or-le-sum_by}, proofs.lemmas.Option.{slice_get_within, get_or_from_slice_get}}
use Rattle.ledger_model.{specs.declared.answer.Answer.TheVariants.Accepted, specs.declared.command.Command.Command, specs.Limits.Bounds, specs.Content.Content, specs.Laws.IsAccepted, specs.Step.{answer, step, content_after, Reached}, proofs.Callers.is_counted}
use Rattle.site_desk.specs.Cell.{Cell, Tallied, Knows, IsCell, most_passes}

module _ (counts : List ℕ) (slot changes : ℕ) (at : slice_get counts slot ≡ Some changes) where
  -- the count that is read
  pub count_read : (v : ℕ) → v ≡ get_or counts slot v → v ≡ changes
  count_read v is = is ∙ get_or_from_slice_get counts slot changes v at

  -- it is part of the sum
  pub count_part : changes ≤ sum counts
  count_part =
      let less = slice_get_within counts slot changes at in
      subst (λ n. n ≤ sum counts) (get_or_from_slice_get counts slot changes 0 at) (get_or-le-sum_by (λ (x : ℕ). x) counts slot 0 less)

  -- one change more
  pub count_more : sum (set counts slot (changes + 1)) ≡ sum counts + 1
  count_more =
      let less = slice_get_within counts slot changes at in
      let more = sum_by-set (λ (x : ℕ). x) counts slot (changes + 1) 0 less in
      let had = get_or_from_slice_get counts slot changes 0 at in
      omega (arith, more, had)

-- what is known of a cell and a tally, by their parts
pub count_at : (c c' : Cell) (p p' : Tallied) → c' ≡ c → p' ≡ p → Knows c p → slice_get c'.counts p'.slot ≡ Some p'.changes
count_at c c' p p' cells passes knows = rw (cells, passes) knows.count

-- an accepted command is one change more
pub one_more : (limits : Bounds) (c : Content) (command : Command) (n : ℕ) → answer limits c command ≡ Accepted n → (step limits c command).0.changes ≡ c.changes + 1
one_more limits c command n is =
    let next = (is_counted limits c command (subst IsAccepted (sym is) tt)).next in
    let same : Accepted n ≡ Accepted (c.changes + 1) = sym is ∙ next in
    let number : n ≡ c.changes + 1 = cc in
    ap (λ a. (content_after c command a).changes) is ∙ number

pub next_number : (limits : Bounds) (c : Content) (command : Command) (n : ℕ) → answer limits c command ≡ Accepted n → n ≡ suc c.changes
next_number limits c command n is =
    let next = (is_counted limits c command (subst IsAccepted (sym is) tt)).next in
    let same : Accepted n ≡ Accepted (c.changes + 1) = sym is ∙ next in
    let number : n ≡ c.changes + 1 = cc in
    omega (arith, number)

-- what a cell keeps after an accepted command
pub cell_more : (limits limits' : Bounds) (content content' : Content) (counts : List ℕ) (slot changes v n room : ℕ) → IsCell limits content counts room
    → slice_get counts slot ≡ Some changes → v ≡ changes → content'.changes ≡ content.changes + 1 → n ≡ content'.changes → Reached limits' n content'
    → IsCell limits' content' (set counts slot (v + 1)) room
cell_more limits limits' content content' counts slot changes v n room kept at is more told reached = record {
  reached = subst (λ k. Reached limits' k content') told reached;
  counted = ap (λ k. sum (set counts slot (k + 1))) is ∙ count_more counts slot changes at ∙ ap (λ k. k + 1) kept.counted ∙ sym more;
  few = subst (λ k. k ≤ most_passes) (sym (length-set counts slot (v + 1))) kept.few;
  fits = kept.fits;
}
