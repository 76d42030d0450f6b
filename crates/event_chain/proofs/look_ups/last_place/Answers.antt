use Rattle.std.proofs.Common.{ap, ◌∙◌}
use Rattle.key_index.specs.Entries.{last_of, below}
use Rattle.event_chain.{specs.Edits.at_home, proofs.Places.last_seg}
use Rattle.event_chain.proofs.look_ups.last_place.Goals as goal

pub returns : goal.returns
returns c =
    let t = c.args.slot in let es = c.args.index.now.entries in
    c.own.ensures ∙ ap (at_home t) (c.before-2.ensures.last ∙ ap (λ r. last_of (below r es)) c.new.ensures) ∙ last_seg t es c.before-2.ensures.rising
