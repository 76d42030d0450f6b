use Rattle.std.proofs.Common.{length, ◌-◌, slice_get, option_map, sym, ap, ◌∙◌}
use Rattle.ledger_model.specs.Gaps.{numbers_of}
use Rattle.event_chain.{specs.Edits.last_under, specs.Walk.number_in, proofs.Facts.all_seen, proofs.Lives.last_live, proofs.Rows.row_below}
use Rattle.event_chain.proofs.chains.Chains.last.Goals as goal

pub last_live-requires : goal.last_live-requires
last_live-requires c = row_below c.self.inside.table.rows c.self.inside.table.capacity c.args.tx.now c.get.result c.get.ensures.slotted.below c.get.ensures.slotted.few c.get.ensures.value

pub returns : goal.returns
returns c =
    let k = c.self.invariant in let tx = c.args.tx.now in
    c.number_of.ensures ∙ ap (option_map number_in) (c.last_live.ensures ∙ ap (last_under c.self.inside.places.live.entries) c.get.ensures.value)
    ∙ sym (last_live k.keyed tx k.indexed.lives (λ e. e.0.seq)) ∙ ap (λ xs. let ns = numbers_of tx xs in slice_get ns (length ns - 1)) (all_seen k c.self.view_is)
