use Rattle.std.{proofs.Common.{Some, None, ap, ◌∙◌, set}, proofs.lemmas.List.set-set}
use Rattle.slot_arena.specs.declared.slot.Slot.TheVariants.{Held}
use Rattle.slot_arena.proofs.slot.hold.Goals as goal

pub returns-clause-row : goal.returns-clause-row
returns-clause-row g c =
    let place = Some (Held c.args.value) in let id = c.args.index in
    (c.put.ensures.0 ∙ c.pull.ensures.row.0, c.put.ensures.1 ∙ ap (λ row. set row id place) c.pull.ensures.row.1 ∙ set-set c.args.places.now.row id None place)
