use Rattle.std.{proofs.Common.{ap, subst, sym}, proofs.lemmas.Option.IfSome_then}
use Rattle.event_chain.{specs.Chains.stored, specs.Room.readings_under}
use Rattle.ledger_model.specs.declared.order.Order.TheVariants.{Moment}
use Rattle.station_ledger.{specs.Moved.IsExchanged, specs.Quarters.IsWork, specs.Runs.by_way, specs.Spent.most_turned, specs.Sums.order_of, proofs.Exchanges.{all_then, few_come, few_go, held, room_left, rows_then, turned_in_time, were, work_then}}
use Rattle.station_ledger.proofs.sums.turn_pairs.Goals as goal

pub move_event-requires : goal.move_event-requires
move_event-requires c =
    let h = c.requires.turns in let new = stored c.args.chains.now in let way = c.args.way in
    (by_way way h.0 new, by_way way new h.0, turned_in_time c.requires.within h.1 c.in-Some.is)

pub returns-in-Some-clause-exchanged : goal.returns-in-Some-clause-exchanged
returns-in-Some-clause-exchanged c es h =
    let new = stored c.args.chains.now in let way = c.args.way in let less = c.move_event.result.less in let more = c.move_event.result.more in
    subst (λ b. IsExchanged (order_of b) c.args.key.now.tx es new less more) (sym c.in-Some.is)
    (subst (λ l. IsExchanged Moment c.args.key.now.tx l new less more) (were way es new)
    (c.move_event.ensures.exchanged (by_way way es new) (by_way way new es) (turned_in_time c.requires.within h c.in-Some.is)))

pub returns-in-Some-clause-work : goal.returns-in-Some-clause-work
returns-in-Some-clause-work c es h =
    let new = stored c.args.chains.now in let way = c.args.way in
    subst (λ b. IsWork (most_turned (order_of b) way c.args.chains.now c.args.key.now es) c.args.work.now c.move_event.new.work) (sym c.in-Some.is)
    (c.move_event.ensures.work (by_way way es new) (by_way way new es) (turned_in_time c.requires.within h c.in-Some.is))

-- by sequence, an event comes
pub move_gap-less-requires : goal.move_gap-less-requires
move_gap-less-requires c = held c.requires.within c.requires.turns.1 c.in-None.is c.in-Coming.is

pub move_both-more-requires-clause-own : goal.move_both-more-requires-clause-own
move_both-more-requires-clause-own c d = IfSome_then c.args.own c.requires.own (λ e has. sym (ap (readings_under d) has))

pub move_both-more-requires-clause-may : goal.move_both-more-requires-clause-may
move_both-more-requires-clause-may c = room_left c.requires.within c.requires.turns.1 c.in-None.is c.in-Coming.is c.move_gap-less.ensures

pub move_both-more-requires-clause-few : goal.move_both-more-requires-clause-few
move_both-more-requires-clause-few c = few_come c.requires.within c.requires.turns.1 c.in-None.is c.in-Coming.is

pub returns-in-Coming-clause-rows : goal.returns-in-Coming-clause-rows
returns-in-Coming-clause-rows c = rows_then c.requires.within c.requires.turns.1 c.in-None.is c.in-Coming.is c.move_gap-less.ensures c.move_both-more.ensures

pub returns-in-Coming-clause-exchanged : goal.returns-in-Coming-clause-exchanged
returns-in-Coming-clause-exchanged c es h = all_then c.requires.within h c.in-None.is c.in-Coming.is c.move_gap-less.ensures c.move_both-more.ensures

pub returns-in-Coming-clause-work : goal.returns-in-Coming-clause-work
returns-in-Coming-clause-work c es h = work_then c.requires.within h c.in-None.is c.in-Coming.is c.move_gap-less.ensures c.move_both-more.ensures

-- and goes
pub move_both-less-requires-clause-may : goal.move_both-less-requires-clause-may
move_both-less-requires-clause-may c = held c.requires.within c.requires.turns.1 c.in-None.is c.in-Going.is

pub move_both-less-requires-clause-few : goal.move_both-less-requires-clause-few
move_both-less-requires-clause-few c = few_go c.requires.within c.requires.turns.1 c.in-None.is c.in-Going.is

pub move_gap-more-requires : goal.move_gap-more-requires
move_gap-more-requires c = room_left c.requires.within c.requires.turns.1 c.in-None.is c.in-Going.is c.move_both-less.ensures

pub returns-in-Going-clause-rows : goal.returns-in-Going-clause-rows
returns-in-Going-clause-rows c = rows_then c.requires.within c.requires.turns.1 c.in-None.is c.in-Going.is c.move_both-less.ensures c.move_gap-more.ensures

pub returns-in-Going-clause-exchanged : goal.returns-in-Going-clause-exchanged
returns-in-Going-clause-exchanged c es h = all_then c.requires.within h c.in-None.is c.in-Going.is c.move_both-less.ensures c.move_gap-more.ensures

pub returns-in-Going-clause-work : goal.returns-in-Going-clause-work
returns-in-Going-clause-work c es h = work_then c.requires.within h c.in-None.is c.in-Going.is c.move_both-less.ensures c.move_gap-more.ensures
