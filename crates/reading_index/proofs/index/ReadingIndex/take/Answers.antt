use Rattle.std.{proofs.Common.{◌≡◌, refl, Option, Some, None, is_some, false, sym, ap, ◌∙◌}, specs.Prelude.map}
use Rattle.key_index.specs.declared.filed.Filed.{Filed}
use Rattle.ledger_model.specs.Event.{MeterReading}
use Rattle.reading_index.{specs.Timed.{TimedReadings, with_rank, without}, proofs.Ranked.{none_out, taken_out}}
use Rattle.reading_index.proofs.index.ReadingIndex.take.Goals as goal

no_filed : (o : Option (Filed MeterReading)) → is_some o ≡ false → o ≡ None
no_filed None is = refl
no_filed (Some f) is = cc

pub returns-then-is_some-clause-entries : goal.returns-then-is_some-clause-entries
returns-then-is_some-clause-entries c =
    let key = c.args.key in let es = c.self.inside.index.entries in
    ap (map with_rank) c.remove.ensures.entries
    ∙ taken_out key es c.place_near-place.ensures.rising (ap is_some (sym c.get.ensures) ∙ sym c.is_some.ensures ∙ c.if-is_some.true)
    ∙ ap (λ (i : TimedReadings). without key i.entries) c.self.view_is

pub returns-else-is_some-clause-entries : goal.returns-else-is_some-clause-entries
returns-else-is_some-clause-entries c =
    let key = c.args.key in let es = c.self.inside.index.entries in
    let same = ap (λ (i : TimedReadings). i.entries) c.self.view_is in
    sym same ∙ none_out key es c.place_near-place.ensures.rising (no_filed _ (ap is_some (sym c.get.ensures) ∙ sym c.is_some.ensures ∙ c.if-is_some.false)) ∙ ap (without key) same
