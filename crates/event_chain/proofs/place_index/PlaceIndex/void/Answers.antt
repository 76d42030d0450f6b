use Rattle.std.{proofs.lemmas.Grind.common_steps, proofs.Common.{arith, refl, sym, ◌∙◌}}
use Rattle.event_chain.{specs.Links.linked_out, proofs.MarkedIndexes.{filed_there, gone_from, stored_stays, lives_less, unmarked}, proofs.Lists.{live_slot, live_sides, placed_out}}
use Rattle.key_index.specs.declared.filed.Mark.TheVariants.{Live}
use Rattle.event_chain.proofs.place_index.PlaceIndex.void.Goals as goal

pub prev-before-requires : goal.prev-before-requires
prev-before-requires c = live_slot c.self.invariant c.self.view_is c.args.key c.requires.live

pub next-after-requires : goal.next-after-requires
next-after-requires c = live_slot c.self.invariant c.self.view_is c.args.key c.requires.live

pub link_out-requires : goal.link_out-requires
link_out-requires c = let sides = live_sides c.self.invariant c.self.view_is c.args.key c.requires.live in
    ((λ x is. sides.0 x (sym c.prev-before.ensures ∙ is)), (λ x is. sides.1 x (sym c.next-after.ensures ∙ is)))

pub set_marks-requires : goal.set_marks-requires
set_marks-requires c = grind (arith, common_steps, filed_there)

pub invariant_of-self : goal.invariant_of-self
invariant_of-self c = placed_out c.self.invariant c.self.view_is c.args.key c.requires.live c.set_marks.new.self c.link_out.new.self c.set_marks.ensures.rising
    (gone_from c.self.inside.index c.set_marks.new.self c.self.view_is c.args.key c.self.invariant.rising c.set_marks.ensures.capacity
    c.args.slot c.requires.stored unmarked c.set_marks.ensures.entries refl Live)
    (c.link_out.ensures ∙ (λ i. linked_out c.self.inside.links (c.prev-before.ensures i) (c.next-after.ensures i)))

pub returns-clause-stored : goal.returns-clause-stored
returns-clause-stored c = stored_stays c.self.inside.index c.set_marks.new.self c.self.view_is c.args.key c.self.invariant.rising
    c.set_marks.ensures.capacity c.args.slot c.requires.stored unmarked c.set_marks.ensures.entries

pub returns-clause-lives : goal.returns-clause-lives
returns-clause-lives c = lives_less c.self.inside.index c.set_marks.new.self c.self.view_is c.args.key c.self.invariant.rising
    c.set_marks.ensures.capacity c.args.slot c.requires.stored unmarked c.set_marks.ensures.entries refl
