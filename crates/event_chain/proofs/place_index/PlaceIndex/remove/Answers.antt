use Rattle.std.{proofs.lemmas.Grind.common_steps, proofs.Common.{arith, Some, refl, sym, subst}}
use Rattle.key_index.specs.declared.filed.Mark.TheVariants.{Live}
use Rattle.event_chain.{specs.Edits.IsNotLive, specs.Placed.marked_index, proofs.MarkedIndexes.{filed_some, stays_in, stored_less, lives_stay}, proofs.Lists.listed_same}
use Rattle.event_chain.proofs.place_index.PlaceIndex.remove.Goals as goal

pub remove-requires : goal.remove-requires
remove-requires c = grind (arith, common_steps, filed_some)

pub invariant_of-self : goal.invariant_of-self
invariant_of-self c =
    let m = c.self.inside in let dark = subst (IsNotLive c.args.key) (sym c.self.view_is) c.requires.not_live in
    let same = stays_in m.index c.remove.new.self c.self.view_is c.args.key c.self.invariant.rising c.remove.ensures.capacity
    c.requires.stored c.remove.ensures.entries c.requires.not_live Live dark.live in
    record { rising = c.remove.ensures.rising; listed = listed_same (marked_index (Some Live) c.remove.new.self) (marked_index (Some Live) m.index) m.links m.links same refl c.self.invariant.listed }

pub returns-clause-stored : goal.returns-clause-stored
returns-clause-stored c = stored_less c.self.inside.index c.remove.new.self c.self.view_is c.args.key c.self.invariant.rising c.remove.ensures.capacity c.requires.stored c.remove.ensures.entries

pub returns-clause-lives : goal.returns-clause-lives
returns-clause-lives c =
    lives_stay c.self.inside.index c.remove.new.self c.self.view_is c.args.key c.self.invariant.rising c.remove.ensures.capacity c.requires.stored c.remove.ensures.entries c.requires.not_live
