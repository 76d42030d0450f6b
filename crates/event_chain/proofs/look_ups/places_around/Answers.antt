use Rattle.std.proofs.Common.{ap, ◌∙◌}
use Rattle.event_chain.{specs.Edits.at_home, proofs.Cuts.before_seg}
use Rattle.event_chain.proofs.look_ups.places_around.Goals as goal

pub returns-clause-before : goal.returns-clause-before
returns-clause-before c =
    let r = c.args.key in let es = c.args.index.now.entries in
    c.own-before.ensures ∙ ap (at_home c.transaction.result) c.around-found.ensures.before ∙ before_seg c.transaction.result r es c.around-found.ensures.rising c.transaction.ensures
