-- The passes of tallies, and the looks that a settled command counts.
use Rattle.std.{proofs.Common.{◌≡◌, ℕ, ◌≤◌, List, length, map, subst, ap, sym, ◌∙◌, arith}, specs.Prelude.slice_get, proofs.lemmas.List.length-map}
use Rattle.ledger_model.{specs.declared.answer.Answer.Answer, specs.declared.answer.Answer.TheVariants.{Accepted, Repeat, Refused}}
use Rattle.site_book.specs.Book.{Book}
use Rattle.site_desk.{specs.declared.plan.SitePlan.SitePlan, specs.declared.plan.StationPlan.StationPlan, specs.Cell.{Cell, Held, Knows, Tallied, held, tally_of}}
use Rattle.station_ledger.specs.Spent.{IsSpent}
use Rattle.script_ledgers.{specs.Running.{AreTheirPasses, IsRunning}, proofs.Opened.mapped_from}

-- the passes that are made of the tallies of running ledgers are those of their cells
pub their_passes : (sites : List SitePlan) (stations : List StationPlan) (cells : List Cell) (books : List Book) (tallies : List Tallied) (r : IsRunning sites stations cells books tallies)
    (passes : List Held) → passes ≡ map (λ t. held t 0) tallies → AreTheirPasses cells passes
their_passes sites stations cells books tallies r passes is = record {
  count = ap length is ∙ length-map tallies (λ t. held t 0) ∙ r.all_tallies ∙ sym r.all_cells;
  known = λ k c p at has.
      let t = mapped_from (λ t. held t 0) tallies k p (ap (λ l. slice_get l k) (sym is) ∙ has) in
      subst (λ (q : Held). Knows c (tally_of q)) t.1.1 (r.known k c t.0 at t.1.0);
}

-- a settled command takes no look back
pub rises : (a : Answer) (before after : ℕ) → IsSpent a before after → before ≤ after
rises (Accepted n) before after spent = spent
rises Repeat before after spent = omega (arith, spent)
rises (Refused why) before after spent = omega (arith, spent)
