use Rattle.std.proofs.Common.{◌≡◌, Some, option_map, sym, ap, ◌∙◌, subst}
use Rattle.event_chain.{specs.Links.linked_in, specs.Flat.place_of, specs.Lists.{slot_in, slot_before, slot_after, AreListed}, specs.Placed.{Index, marked_index}, proofs.MarkedIndexes.marked_rising, proofs.Lists.sides_absent}
use Rattle.key_index.{specs.declared.filed.Mark.TheVariants.Live, specs.Entries.AreRising}
use Rattle.event_chain.proofs.place_index.link_live.Goals as goal

pub slot_behind-after-requires-clause-rising : goal.slot_behind-after-requires-clause-rising
slot_behind-after-requires-clause-rising c = subst (λ (x : Index). AreRising x.entries) (sym c.over-live.ensures) (marked_rising (Some Live) c.args.index.now.entries c.requires.rising)

pub slot_behind-after-requires-clause-listed : goal.slot_behind-after-requires-clause-listed
slot_behind-after-requires-clause-listed c = subst (λ (x : Index). AreListed x c.args.links.now) (sym c.over-live.ensures) c.requires.listed

pub slot_behind-after-requires-clause-absent : goal.slot_behind-after-requires-clause-absent
slot_behind-after-requires-clause-absent c = ap (λ (x : Index). place_of c.args.key x.entries) c.over-live.ensures ∙ c.requires.absent

pub link_in-requires-clause-sides : goal.link_in-requires-clause-sides
link_in-requires-clause-sides c =
    let L = marked_index (Some Live) c.args.index.now in let key = c.args.key in
    let sides = sides_absent L c.args.links.now c.requires.listed (marked_rising (Some Live) c.args.index.now.entries c.requires.rising) key c.requires.absent in
    let before : c.slot_of_place-before.result ≡ slot_before key L.entries =
    c.slot_of_place-before.ensures ∙ ap (option_map slot_in) c.place_before.ensures ∙ ap (λ (x : Index). slot_before key x.entries) c.over-live.ensures in
    let after : c.slot_behind-after.result ≡ slot_after key L.entries = c.slot_behind-after.ensures ∙ ap (λ (x : Index). slot_after key x.entries) c.over-live.ensures in
    ((λ x is. sides.0 x (sym before ∙ is)), (λ x is. sides.1 x (sym after ∙ is)))

pub returns : goal.returns
returns c =
    let L = marked_index (Some Live) c.args.index.now in let key = c.args.key in
    let before : c.slot_of_place-before.result ≡ slot_before key L.entries =
    c.slot_of_place-before.ensures ∙ ap (option_map slot_in) c.place_before.ensures ∙ ap (λ (x : Index). slot_before key x.entries) c.over-live.ensures in
    let after : c.slot_behind-after.result ≡ slot_after key L.entries = c.slot_behind-after.ensures ∙ ap (λ (x : Index). slot_after key x.entries) c.over-live.ensures in
    c.link_in.ensures ∙ (λ i. linked_in c.args.links.now (before i) c.args.slot c.args.slot (after i))
