use Rattle.std.{proofs.Common.{ap, sym, subst, ◌∙◌, Some}, proofs.lemmas.List.Elements.All-pop, specs.Arc.arc_value}
use Rattle.message_ahead.{specs.Ahead.IsFound, specs.declared.pieces.Pieces.Pieces}
use Rattle.message_ahead.proofs.chunk.Chunk.take.Goals as goal

pub sent_by-requires : goal.sent_by-requires
sent_by-requires c =
    let bytes = (arc_value c.stale.self.pieces).bytes.items in
    let readings = c.stale.self.readings.items in
    let next = c.in-Some-pop.next in
    let kept = All-pop (IsFound bytes readings) c.stale.self.found.items c.pop.new.self.items (Some next) (c.in-Some-pop.ensures).items c.stale.invariant in
    subst (λ bs. IsFound bs c.deref-then-next-room-2-3.result.now next)
    (ap (λ (p : Pieces). p.bytes.items) (sym c.deref-then-next-room-2.ensures) ∙ sym c.deref-then-next-room-2-2.ensures.value)
    (subst (λ rs. IsFound bytes rs next) (sym c.deref-then-next-room-2-3.ensures.value) kept.1)
