use Rattle.std.proofs.Common.{ap, ◌∙◌}
use Rattle.key_index.specs.Entries.{first_of, from}
use Rattle.event_chain.{specs.Edits.at_home, proofs.Places.first_seg}
use Rattle.event_chain.proofs.look_ups.first_place.Goals as goal

pub returns : goal.returns
returns c =
    let t = c.args.slot in let es = c.args.index.now.entries in
    c.own.ensures ∙ ap (at_home t) (c.at_or_after.ensures.first ∙ ap (λ r. first_of (from r es)) c.new.ensures) ∙ first_seg t es c.at_or_after.ensures.rising
