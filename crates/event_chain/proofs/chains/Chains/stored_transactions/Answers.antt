use Rattle.std.proofs.Common.{length, sym, ap, ◌∙◌}
use Rattle.ledger_model.specs.Content.{transactions_of}
use Rattle.event_chain.proofs.Facts.{all_seen, ids_count}
use Rattle.event_chain.proofs.chains.Chains.stored_transactions.Goals as goal

pub returns : goal.returns
returns c = let k = c.self.invariant in c.len.ensures.len ∙ sym (ids_count k) ∙ ap (λ es. length (transactions_of es)) (all_seen k c.self.view_is)
