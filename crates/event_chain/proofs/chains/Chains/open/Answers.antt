use Rattle.std.{proofs.lemmas.Grind.common_steps, proofs.Common.{◌≤◌, [], None, replicate, ap, ◌∙◌, arith}}
use Rattle.event_chain.{specs.Placed.{Index, carriers_of}, proofs.Facts.{seal, opened_chains, opened_events}}
use Rattle.event_chain.proofs.chains.Chains.open.Goals as goal

pub invariant_of-result : goal.invariant_of-result
invariant_of-result c =
    let l = c.args.limits.now in let few : l.events ≤ 65536 = omega (arith, c.events-events.ensures.value, c.events-events.ensures.most) in
    seal l c.in_ok-open.field-0 c.in_ok-open-2.field-0 c.in_ok-open-3.field-0.stored c.in_ok-open-3.field-0.live
    (carriers_of c.in_ok-open-3.field-0) c.in_ok-open-3.field-0.naming [] l.transactions (replicate l.events None) 0 l.readings [] []
    (λ _. []) [] l.events
    c.in_ok-open.ensures.rows (c.in_ok-open.ensures.capacity ∙ c.transactions-transactions.ensures.value)
    (c.in_ok-open-2.ensures.slots ∙ ap (λ n. replicate n None) c.events-events.ensures.value) c.in_ok-open-2.ensures.readings
    (c.in_ok-open-2.ensures.capacity ∙ c.readings.ensures.value)
    (ap (λ (x : Index). x.entries) c.in_ok-open-3.ensures.stored) (ap (λ (x : Index). x.entries) c.in_ok-open-3.ensures.live)
    (λ d. ap (λ (x : Index). x.entries) (c.in_ok-open-3.ensures.carriers d))
    (ap (λ (x : Index). x.entries) c.in_ok-open-3.ensures.naming)
    (ap (λ (x : Index). x.capacity) c.in_ok-open-3.ensures.stored ∙ c.events-events.ensures.value)
    (ap (λ (x : Index). x.capacity) c.in_ok-open-3.ensures.live ∙ c.events-events.ensures.value)
    (λ d. ap (λ (x : Index). x.capacity) (c.in_ok-open-3.ensures.carriers d) ∙ c.events-events.ensures.value)
    (ap (λ (x : Index). x.capacity) c.in_ok-open-3.ensures.naming ∙ c.events-events.ensures.value) (opened_chains l few)

pub returns-clause-empty : goal.returns-clause-empty
returns-clause-empty c = grind (arith, common_steps, opened_events)
