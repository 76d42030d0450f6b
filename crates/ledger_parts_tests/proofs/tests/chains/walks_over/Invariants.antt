use Rattle.gap_list.specs.Walk.{StandsAt}
use Rattle.event_chain.specs.Walk.{numbers_from}
use Rattle.ledger_parts_tests.proofs.tests.chains.walks_over.Given as goal

abbrev pub invariant-loop-number : goal.invariant-loop-number
invariant-loop-number l = StandsAt (λ w place. numbers_from place.live.now.live.entries place.store.now.slots place.slot) l.walk l.place
