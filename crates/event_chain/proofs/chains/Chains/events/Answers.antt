use Rattle.std.proofs.Common.{◌≡◌, IfOk, is_some, map, sym, ap, subst, ◌∙◌}
use Rattle.event_chain.{specs.EventLines.{events_of, line_at}, specs.Flat.{place_of, segment}, specs.Placed.Index, proofs.Facts.all_seen, proofs.Lives.{events_under, places_under}}
use Rattle.event_chain.proofs.chains.Chains.events.Goals as goal

pub lines_under-requires-clause-held : goal.lines_under-requires-clause-held
lines_under-requires-clause-held c r s there = ap is_some (c.self.invariant.keyed.homes r s (ap (λ (x : Index). place_of r x.entries) (sym c.stored-stored.ensures.same) ∙ there)).held_is

pub returns-in-Some : goal.returns-in-Some
returns-in-Some c =
    let m = c.self.inside in let k = c.self.invariant in let tx = c.args.tx.now in
    subst (λ ls. IfOk c.lines_under.result (λ lines. lines.items ≡ ls))
    (ap (λ (x : Index). map (line_at m.store.slots) (segment c.in-Some.row.slot x.entries)) c.stored-stored.ensures.same
    ∙ ap (λ o. map (line_at m.store.slots) (places_under m.places.stored.entries o)) (sym c.in-Some.is ∙ c.get.ensures.value)
    ∙ sym (events_under k.keyed tx) ∙ ap (events_of tx) (all_seen k c.self.view_is)) c.lines_under.ensures

pub returns-in-None : goal.returns-in-None
returns-in-None c =
    let m = c.self.inside in let k = c.self.invariant in let tx = c.args.tx.now in
    c.new.ensures.items ∙ ap (λ o. map (line_at m.store.slots) (places_under m.places.stored.entries o)) (sym c.in-None.is ∙ c.get.ensures.value)
    ∙ sym (events_under k.keyed tx) ∙ ap (events_of tx) (all_seen k c.self.view_is)
