use Rattle.std.{proofs.Common.{ℕ, ap, ◌∙◌}, specs.List.count_by}
use Rattle.ledger_model.specs.Complete.{kinds_of}
use Rattle.event_chain.{specs.Kept.is_end, proofs.Counts.ends_counted, proofs.Facts.all_seen}
use Rattle.event_chain.proofs.chains.Chains.end_count.Goals as goal

pub returns : goal.returns
returns c = let m = c.self.inside in let k = c.self.invariant in let tx = c.args.tx.now in
    ap (λ (p : ℕ × ℕ). p.1) c.counts_in.ensures ∙ ends_counted m.table.rows m.places.stored.entries m.store.slots k.figured tx c.get.result c.get.ensures.value
    ∙ ap (λ xs. count_by is_end (kinds_of tx xs)) (all_seen k c.self.view_is)
