use Rattle.std.proofs.Common.{Some, set, refl, sym, ap, ◌∙◌, length-set}
use Rattle.slot_arena.{specs.declared.slot.Slot.TheVariants.Held, specs.Arena.value_at, specs.Free.value_in, proofs.Threads.{held_in, threaded-write, shown_at, shown_set}}
use Rattle.slot_arena.proofs.arena.SlotArena.get_mut.Goals as goal

pub lent-requires : goal.lent-requires
lent-requires g c =
    let a = c.self.inside in let holds = held_in a.places.row c.args.self.now c.number.result c.args.id c.self.view_is c.number.ensures c.requires in
    (sym c.self.invariant.places_at, (Held holds.0, holds.1))

pub invariant_of-self-lent : goal.invariant_of-self-lent
invariant_of-self-lent g c =
    λ w. let a = c.self.inside in let was = c.self.invariant in let id = c.number.result in
    let holds = held_in a.places.row c.args.self.now id c.args.id c.self.view_is c.number.ensures c.requires in
    record {
      places_at = was.places_at;
      lease_at = was.lease_at;
      lease_len = was.lease_len;
      lease_alloc = was.lease_alloc;
      count = length-set a.places.row id (Some (Held w)) ∙ was.count;
      threaded = threaded-write a.places.row a.first a.spare id w was.threaded holds;
    }

pub returns : goal.returns
returns g c =
    let a = c.self.inside in let id = c.number.result in let old = c.args.self.now in (
      (refl, λ w. shown_set a.places.row id (Some (Held w)) ∙ ap (λ slots. set slots id (Some w)) c.self.view_is ∙ ap (λ i. set old i (Some w)) c.number.ensures),
      record {
        writes_back = tt;
        value = ap (value_at old) (sym c.number.ensures) ∙ ap (λ slots. value_at slots id) (sym c.self.view_is) ∙ shown_at a.places.row id
            ∙ ap value_in (c.lent.ensures.value ∙ ap Some c.value_mut.ensures.value);
      },
    )
