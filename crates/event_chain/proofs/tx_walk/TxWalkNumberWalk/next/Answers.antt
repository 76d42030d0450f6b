use Rattle.std.proofs.Common.{sym, ◌∙◌}
use Rattle.event_chain.proofs.Walks.{at_place, next_some, next_stands, next_none}
use Rattle.event_chain.proofs.tx_walk.TxWalkNumberWalk.next.Goals as goal

pub next-requires : goal.next-requires
next-requires c =
    let p = c.args.place in let at = at_place p.live.now.live.entries p.store.now.slots p.rising p.own p.slot c.requires in
    record { rank = at.rank; found = at.found }

pub returns-in-Some-clause-rest : goal.returns-in-Some-clause-rest
returns-in-Some-clause-rest c =
    let p = c.args.place in let es = p.live.now.live.entries in let slots = p.store.now.slots in let at = at_place es slots p.rising p.own p.slot c.requires in
    next_some es slots p.rising p.own p.slot at c.in-Some.slot (sym c.in-Some.is ∙ c.next.ensures at.rank at.found)

pub returns-in-Some-clause-stands : goal.returns-in-Some-clause-stands
returns-in-Some-clause-stands c =
    let p = c.args.place in let es = p.live.now.live.entries in let slots = p.store.now.slots in let at = at_place es slots p.rising p.own p.slot c.requires in
    next_stands es slots p.rising p.own p.slot at c.in-Some.slot (sym c.in-Some.is ∙ c.next.ensures at.rank at.found)

pub returns-in-None-clause-rest : goal.returns-in-None-clause-rest
returns-in-None-clause-rest c =
    let p = c.args.place in let es = p.live.now.live.entries in let slots = p.store.now.slots in let at = at_place es slots p.rising p.own p.slot c.requires in
    next_none es slots p.rising p.own p.slot at (sym c.in-None.is ∙ c.next.ensures at.rank at.found)
