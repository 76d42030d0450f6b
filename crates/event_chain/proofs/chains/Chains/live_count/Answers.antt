use Rattle.std.proofs.Common.{ℕ, length, ap, ◌∙◌}
use Rattle.ledger_model.specs.Content.{live_of}
use Rattle.event_chain.{proofs.Counts.live_counted, proofs.Facts.all_seen}
use Rattle.event_chain.proofs.chains.Chains.live_count.Goals as goal

pub returns : goal.returns
returns c = let m = c.self.inside in let k = c.self.invariant in let tx = c.args.tx.now in
    ap (λ (p : ℕ × ℕ). p.0) c.counts_in.ensures ∙ live_counted m.table.rows m.places.stored.entries m.store.slots k.figured tx c.get.result c.get.ensures.value
    ∙ ap (λ xs. length (live_of tx xs)) (all_seen k c.self.view_is)
