use Rattle.std.{proofs.Common.{Some, sym, ap, ◌∙◌, subst, arith}, proofs.lemmas.List.length-map}
use Rattle.key_index.specs.declared.filed.Mark.TheVariants.{Live}
use Rattle.event_chain.{specs.Edits.IsSlotFor, specs.Flat.place_of, specs.Placed.{place_in, Placed}, proofs.MarkedIndexes.{marked_absent, filed_absent, put_in, stored_more, lives_more}, proofs.Lists.placed_in}
use Rattle.event_chain.proofs.place_index.PlaceIndex.insert.Goals as goal

pub link_live-requires-clause-absent : goal.link_live-requires-clause-absent
link_live-requires-clause-absent c = marked_absent (Some Live) c.args.key c.self.inside.index.entries (ap (λ (x : Placed). place_of c.args.key x.stored.entries) c.self.view_is ∙ c.requires.absent)

pub link_live-requires-clause-slot : goal.link_live-requires-clause-slot
link_live-requires-clause-slot c = (subst (IsSlotFor c.args.slot) (sym c.self.view_is) c.requires.slot_for).within

pub link_live-requires-clause-unused : goal.link_live-requires-clause-unused
link_live-requires-clause-unused c = (subst (IsSlotFor c.args.slot) (sym c.self.view_is) c.requires.slot_for).unused

pub insert-requires-clause-absent : goal.insert-requires-clause-absent
insert-requires-clause-absent c =
    filed_absent c.args.key c.self.inside.index.entries c.self.invariant.rising (ap (λ (x : Placed). place_of c.args.key x.stored.entries) c.self.view_is ∙ c.requires.absent)

pub insert-requires-clause-room : goal.insert-requires-clause-room
insert-requires-clause-room c = grind (arith, c.requires.room, length-map c.self.inside.index.entries place_in)

pub invariant_of-self : goal.invariant_of-self
invariant_of-self c =
    let es = c.self.inside.index.entries in
    let none = marked_absent (Some Live) c.args.key es (ap (λ (x : Placed). place_of c.args.key x.stored.entries) c.self.view_is ∙ c.requires.absent) in
    placed_in c.self.invariant c.self.view_is c.args.key c.args.slot c.insert.new.self c.link_live.new.links
    (ap (λ (x : Placed). place_of c.args.key x.live.entries) (sym c.self.view_is) ∙ none) c.requires.slot_for c.insert.ensures.rising
    (put_in c.self.inside.index c.insert.new.self c.self.view_is c.args.key c.self.invariant.rising c.insert.ensures.capacity
    c.args.slot c.args.carries c.args.names_evse c.requires.absent c.insert.ensures.entries (Some Live)) c.link_live.ensures

pub returns-clause-stored : goal.returns-clause-stored
returns-clause-stored c = stored_more c.self.inside.index c.insert.new.self c.self.view_is c.args.key c.self.invariant.rising
    c.insert.ensures.capacity c.args.slot c.args.carries c.args.names_evse c.requires.absent c.insert.ensures.entries

pub returns-clause-lives : goal.returns-clause-lives
returns-clause-lives c = lives_more c.self.inside.index c.insert.new.self c.self.view_is c.args.key c.self.invariant.rising
    c.insert.ensures.capacity c.args.slot c.args.carries c.args.names_evse c.requires.absent c.insert.ensures.entries
