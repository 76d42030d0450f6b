use Rattle.std.proofs.Common.{sym, ap, ◌∙◌}
use Rattle.ledger_model.specs.Content.{transactions_of}
use Rattle.event_chain.{proofs.Facts.all_seen, proofs.Ids.ids_flat}
use Rattle.event_chain.proofs.chains.Chains.transactions.Goals as goal

pub returns : goal.returns
returns c = let m = c.self.inside in let k = c.self.invariant in
    c.of.ensures ∙ sym (ids_flat m.table.rows m.places.stored.entries m.store.slots k.keyed.rising k.keyed.filled) ∙ ap transactions_of (all_seen k c.self.view_is)
