use Rattle.std.proofs.Common.{Option, Some, sym, ap, ◌∙◌}
use Rattle.std.specs.FinMap as finite
use Rattle.event_store.specs.Slots.{Held}
use Rattle.event_chain.{specs.Chains.Chained, specs.Flat.{stored_in, event_at}, proofs.Facts.get_place, proofs.Marks.held_place}
use Rattle.event_chain.proofs.chains.Chains.look.Goals as goal

pub get-requires : goal.get-requires
get-requires c =
    let m = c.self.inside in held_place c.self.invariant c.args.key.now c.in-Some.slot (sym (sym c.in-Some.is ∙ c.look_up-found.ensures))

pub returns-in-Some : goal.returns-in-Some
returns-in-Some c =
    let m = c.self.inside in
    ap (λ (o : Option Held). Some (stored_in o)) (sym c.get.ensures)
    ∙ ap (event_at m.store.slots) (sym c.in-Some.is ∙ c.look_up-found.ensures) ∙ sym (get_place c.self.invariant c.args.key.now)
    ∙ ap (λ (x : Chained). finite.get x.events c.args.key.now) c.self.view_is

pub returns-in-None : goal.returns-in-None
returns-in-None c =
    let m = c.self.inside in
    ap (event_at m.store.slots) (sym c.in-None.is ∙ c.look_up-found.ensures) ∙ sym (get_place c.self.invariant c.args.key.now) ∙ ap (λ (x : Chained). finite.get x.events c.args.key.now) c.self.view_is
