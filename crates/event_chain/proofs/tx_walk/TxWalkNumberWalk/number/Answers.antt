use Rattle.std.proofs.Common.{◌%◌, ◌^◌, is_some, ap, ◌∙◌}
use Rattle.event_chain.proofs.Walks.{at_place, number_read}
use Rattle.event_chain.proofs.tx_walk.TxWalkNumberWalk.number.Goals as goal

pub get-requires : goal.get-requires
get-requires c = let p = c.args.place in let at = at_place p.live.now.live.entries p.store.now.slots p.rising p.own p.slot c.requires in ap is_some at.held_is

pub returns : goal.returns
returns c =
    let p = c.args.place in let es = p.live.now.live.entries in let slots = p.store.now.slots in let at = at_place es slots p.rising p.own p.slot c.requires in
    c.number.ensures ∙ ap (λ r. r % 2 ^ 31) c.key.ensures ∙ number_read es slots p.rising p.own p.slot at c.get.result c.get.ensures
