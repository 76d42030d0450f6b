use Rattle.std.proofs.Common.{slice_get, option_map, sym, ap, ◌∙◌}
use Rattle.ledger_model.specs.Gaps.{numbers_of}
use Rattle.event_chain.{specs.Edits.first_under, specs.Walk.number_in, proofs.Facts.all_seen, proofs.Lives.first_live}
use Rattle.event_chain.proofs.chains.Chains.first.Goals as goal

pub returns : goal.returns
returns c =
    let k = c.self.invariant in let tx = c.args.tx.now in
    c.number_of.ensures ∙ ap (option_map number_in) (c.first_live.ensures ∙ ap (first_under c.self.inside.places.live.entries) c.get.ensures.value)
    ∙ sym (first_live k.keyed tx k.indexed.lives (λ e. e.0.seq)) ∙ ap (λ xs. slice_get (numbers_of tx xs) 0) (all_seen k c.self.view_is)
