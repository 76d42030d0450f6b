use Rattle.std.{proofs.lemmas.Grind.common_steps, proofs.Common.{arith, sym, subst, ◌∙◌}}
use Rattle.event_chain.{specs.Kept.IsBare, specs.Placed.Index, proofs.Places.ranks_of, proofs.Lives.{seg_some, seg_bare}}
use Rattle.event_chain.proofs.look_ups.has_place.Goals as goal

pub returns-clause-some : goal.returns-clause-some
returns-clause-some c has = grind (arith, common_steps, seg_some, ranks_of)

pub returns-clause-bare : goal.returns-clause-bare
returns-clause-bare c has =
    let es = c.stored-stored.result.entries in
    subst (λ (x : Index). IsBare x.entries c.args.slot) c.stored-stored.ensures.same (seg_bare c.args.slot es c.first_place.result c.first_place.ensures (sym c.is_some.ensures ∙ has))
