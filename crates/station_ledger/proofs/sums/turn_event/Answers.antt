use Rattle.std.{proofs.Common.{IfSome, ap, subst, sym, ◌∙◌}, proofs.lemmas.Option.IfSome_then}
use Rattle.ledger_model.{specs.Energy.flows_of_by, proofs.NumberLemmas.numbers-AreRising}
use Rattle.transaction_map.{specs.Map.Mapped, specs.Places.IsAt}
use Rattle.station_ledger.{specs.Sums.{order_in, order_of}, proofs.OneLess.all_less, proofs.Settled.{turned, all_may, own_may, can_replace, replaced}}
use Rattle.station_ledger.proofs.sums.turn_event.Goals as goal

pub standing_after-is-requires : goal.standing_after-is-requires
standing_after-is-requires c =
    let es = c.requires.turns.0 in let h = c.requires.turns.1 in let chains = c.args.chains.now in let key = c.args.key.now in let tx = c.tx-tx.result.now in let order = order_in c.args.sums.now in
    IfSome_then c.args.own c.requires.own (λ e has none.
    all_less c.args.way es chains key c.args.place.now h.turning (numbers-AreRising key.tx (record { events = chains.events; changes = 0 })) tx c.seq.result c.tx-tx.ensures c.seq.ensures.value
    (flows_of_by order tx es) c.found-at.result.1 (c.found-at.ensures.was ∙ h.summed.standing.each tx) e.now has none)

pub applied-sums-requires : goal.applied-sums-requires
applied-sums-requires c = let h = c.requires.turns in let e = c.turn_pairs-exchange.ensures in (all_may (turned c.tx-tx.ensures c.requires.within (e.exchanged h.0 h.1) e.kept h.1)).0

pub applied-energy-requires : goal.applied-energy-requires
applied-energy-requires c = let h = c.requires.turns in let e = c.turn_pairs-exchange.ensures in
    (own_may (turned c.tx-tx.ensures c.requires.within (e.exchanged h.0 h.1) e.kept h.1) c.found-at.ensures.was c.energies_of.ensures).0

pub replace_standing-requires-clause-at : goal.replace_standing-requires-clause-at
replace_standing-requires-clause-at c = subst (λ (k : Mapped _). IfSome c.found-at.result.0 (λ i. IsAt c.tx-tx.result.now k.rows i))
    (sym c.turn_pairs-exchange.ensures.kept.kept) c.found-at.ensures.at

pub replace_standing-requires-clause-can : goal.replace_standing-requires-clause-can
replace_standing-requires-clause-can c =
    let h = c.requires.turns in let e = c.turn_pairs-exchange.ensures in
    can_replace (turned c.tx-tx.ensures c.requires.within (e.exchanged h.0 h.1) e.kept h.1) c.found-at.ensures.was c.energies_of.ensures c.applied-energy.ensures c.standing_after-is.ensures

pub returns-clause-summed : goal.returns-clause-summed
returns-clause-summed c =
    let h = c.requires.turns in let e = c.turn_pairs-exchange.ensures in
    replaced (turned c.tx-tx.ensures c.requires.within (e.exchanged h.0 h.1) e.kept h.1) c.found-at.ensures.was c.energies_of.ensures c.applied-energy.ensures c.standing_after-is.ensures
    e.rows e.timed c.applied-sums.ensures c.replace_standing.ensures

pub returns-clause-order : goal.returns-clause-order
returns-clause-order c = ap order_of c.replace_standing.ensures.by_moment ∙ c.turn_pairs-exchange.ensures.kept.order

pub returns-clause-voided : goal.returns-clause-voided
returns-clause-voided c = ap (λ f. f.voided) c.replace_standing.ensures.figures ∙ ap (λ f. f.voided) c.turn_pairs-exchange.ensures.kept.figures
