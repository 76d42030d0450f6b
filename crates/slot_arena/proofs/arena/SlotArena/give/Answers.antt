use Rattle.std.proofs.Common.{◌+◌, Some, None, length, set, sym, ap, ◌∙◌, subst, arith, length-set}
use Rattle.slot_arena.{specs.declared.slot.Slot.TheVariants.{Free, Held}, specs.Free.{values_in, IsThreaded}, proofs.Rooms.holding_within, proofs.Threads.{held_in, threaded-give, shown_set}}
use Rattle.slot_arena.proofs.arena.SlotArena.give.Goals as goal

pub vacate-value-requires : goal.vacate-value-requires
vacate-value-requires g c =
    let a = c.self.inside in
    (sym c.self.invariant.places_at, held_in a.places.row c.args.self.now c.number-index.result c.args.id c.self.view_is c.number-index.ensures c.requires)

pub invariant_of-self : goal.invariant_of-self
invariant_of-self g c =
    let a = c.self.inside in let was = c.self.invariant in let out = c.vacate-value in let id = c.number-index.result in let place = Some (Free a.first) in
    let holds = held_in a.places.row c.args.self.now id c.args.id c.self.view_is c.number-index.ensures c.requires in
    record {
      places_at = out.ensures.row.0 ∙ was.places_at;
      lease_at = was.lease_at;
      lease_len = was.lease_len;
      lease_alloc = was.lease_alloc;
      count = ap length out.ensures.row.1 ∙ length-set a.places.row id place ∙ was.count;
      threaded = subst (λ row. IsThreaded row id (a.spare + 1)) (sym out.ensures.row.1) (threaded-give a.places.row a.first a.spare id was.threaded holds);
    }

pub returns-clause-numbered : goal.returns-clause-numbered
returns-clause-numbered g c =
    let a = c.self.inside in let holds = held_in a.places.row c.args.self.now c.number-index.result c.args.id c.self.view_is c.number-index.ensures c.requires in
    omega (arith, holding_within a.places.row c.number-index.result (Held holds.0) holds.1, c.self.invariant.threaded.few, c.number-index.ensures)

pub returns-clause-given : goal.returns-clause-given
returns-clause-given g c =
    let a = c.self.inside in let out = c.vacate-value in let id = c.number-index.result in
    ap values_in out.ensures.row.1 ∙ shown_set a.places.row id (Some (Free a.first)) ∙ ap (λ slots. set slots id None) c.self.view_is ∙ ap (λ i. set c.args.self.now i None) c.number-index.ensures
