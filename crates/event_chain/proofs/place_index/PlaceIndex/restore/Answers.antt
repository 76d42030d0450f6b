use Rattle.std.proofs.Common.{is_some, refl, sym, ap, subst}
use Rattle.key_index.specs.declared.filed.Mark.TheVariants.{Live}
use Rattle.event_chain.{specs.Edits.CanRestore, proofs.MarkedIndexes.{again_in, filed_there, live_marks, stored_stays, lives_again}, proofs.Lists.placed_in}
use Rattle.event_chain.proofs.place_index.PlaceIndex.restore.Goals as goal

pub link_live-requires-clause-absent : goal.link_live-requires-clause-absent
link_live-requires-clause-absent c = (subst (CanRestore c.args.key c.args.slot) (sym c.self.view_is) c.requires).not_live.live

pub link_live-requires-clause-slot : goal.link_live-requires-clause-slot
link_live-requires-clause-slot c = (subst (CanRestore c.args.key c.args.slot) (sym c.self.view_is) c.requires).slot_for.within

pub link_live-requires-clause-unused : goal.link_live-requires-clause-unused
link_live-requires-clause-unused c = (subst (CanRestore c.args.key c.args.slot) (sym c.self.view_is) c.requires).slot_for.unused

pub set_marks-requires : goal.set_marks-requires
set_marks-requires c = let can = subst (CanRestore c.args.key c.args.slot) (sym c.self.view_is) c.requires in
    ap is_some (filed_there c.args.key c.args.slot c.self.inside.index.entries c.self.invariant.rising can.stored).1.0

pub invariant_of-self : goal.invariant_of-self
invariant_of-self c = placed_in c.self.invariant c.self.view_is c.args.key c.args.slot c.set_marks.new.self c.link_live.new.links
    c.requires.not_live.live c.requires.slot_for c.set_marks.ensures.rising
    (again_in c.self.inside.index c.set_marks.new.self c.self.view_is c.args.key c.self.invariant.rising c.set_marks.ensures.capacity c.args.slot c.requires.stored
    (live_marks c.args.carries c.args.names_evse) c.set_marks.ensures.entries c.args.carries c.args.names_evse refl c.requires.not_live Live) c.link_live.ensures

pub returns-clause-stored : goal.returns-clause-stored
returns-clause-stored c = stored_stays c.self.inside.index c.set_marks.new.self c.self.view_is c.args.key c.self.invariant.rising
    c.set_marks.ensures.capacity c.args.slot c.requires.stored (live_marks c.args.carries c.args.names_evse) c.set_marks.ensures.entries

pub returns-clause-lives : goal.returns-clause-lives
returns-clause-lives c = lives_again c.self.inside.index c.set_marks.new.self c.self.view_is c.args.key c.self.invariant.rising c.set_marks.ensures.capacity
    c.args.slot c.requires.stored (live_marks c.args.carries c.args.names_evse) c.set_marks.ensures.entries c.args.carries c.args.names_evse refl c.requires.not_live
