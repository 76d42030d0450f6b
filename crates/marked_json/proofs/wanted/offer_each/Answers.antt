use Rattle.std.{proofs.Common.{ap, sym, ◌∙◌}, specs.Prelude.slice_set, proofs.lemmas.List.Edits.map_over_more}
use Rattle.marked_json.specs.Wanted.{offered}
use Rattle.marked_json.proofs.wanted.offer_each.Goals as goal

pub loop-one-preserved : goal.loop-one-preserved
loop-one-preserved c =
    let turn = offered c.args.key.now c.args.member in
    ap (slice_set c.loop-one.wanted c.loop-one.one-index) (c.offer.ensures ∙ ap turn (sym c.one-item.is))
    ∙ map_over_more turn c.args.wanted.now c.loop-one.wanted c.loop-one.one-index c.one-item.result c.loop-one-test.true c.loop-one.invariant c.one-item.is
