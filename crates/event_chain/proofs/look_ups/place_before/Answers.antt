use Rattle.std.proofs.Common.{ap, ◌∙◌}
use Rattle.event_chain.{specs.Edits.at_home, proofs.Cuts.before_seg}
use Rattle.event_chain.proofs.look_ups.place_before.Goals as goal

pub returns : goal.returns
returns c =
    let r = c.args.key in let es = c.args.index.now.entries in
    c.own.ensures ∙ ap (at_home c.transaction.result) c.before-2.ensures.last ∙ before_seg c.transaction.result r es c.before-2.ensures.rising c.transaction.ensures
