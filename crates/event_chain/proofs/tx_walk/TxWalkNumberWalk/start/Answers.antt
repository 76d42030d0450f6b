use Rattle.std.{proofs.lemmas.Grind.common_steps, proofs.Common.{arith, sym, ap, ◌∙◌, subst}}
use Rattle.event_chain.{specs.Walk.numbers_at, proofs.Walks.{numbers_rising, start_some, start_stands, start_none}}
use Rattle.ledger_model.specs.BoardLaws.{AreRising}
use Rattle.event_chain.proofs.tx_walk.TxWalkNumberWalk.start.Goals as goal

pub returns-in-Some-first_place-clause-rising : goal.returns-in-Some-first_place-clause-rising
returns-in-Some-first_place-clause-rising c =
    let es = c.self.inside.live.now.live.entries in
    subst AreRising (ap (numbers_at es) (sym c.in-Some.is) ∙ c.self.view_is) (numbers_rising c.in-Some.slot es c.live-index.ensures.rising)

pub returns-in-Some-first_place-clause-all : goal.returns-in-Some-first_place-clause-all
returns-in-Some-first_place-clause-all c = grind (arith, common_steps, start_some)

pub returns-in-Some-first_place-clause-stands : goal.returns-in-Some-first_place-clause-stands
returns-in-Some-first_place-clause-stands c = grind (arith, common_steps, start_some, start_stands)

pub returns-in-None-first_place-clause-rising : goal.returns-in-None-first_place-clause-rising
returns-in-None-first_place-clause-rising c =
    let es = c.self.inside.live.now.live.entries in
    subst AreRising (ap (numbers_at es) (sym c.in-Some.is) ∙ c.self.view_is) (numbers_rising c.in-Some.slot es c.live-index.ensures.rising)

pub returns-in-None-first_place-clause-all : goal.returns-in-None-first_place-clause-all
returns-in-None-first_place-clause-all c = grind (arith, common_steps, start_none)
