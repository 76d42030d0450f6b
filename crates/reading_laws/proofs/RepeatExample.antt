-- The readings of the example are repeats.
use Rattle.std.{proofs.Common.{◌≡◌, [], refl, arith}, proofs.lemmas.List.Elements.All-from_recursion}
use Rattle.ledger_model.{specs.declared.order.Order.TheVariants.Moment, specs.declared.reading.Direction.TheVariants.Import, specs.BoardExamples.{late_event, reading}, specs.Energy.readings_by, specs.Event.MeterReading, specs.ReadingOrder.IsRepeat}
use Rattle.reading_laws.{specs.RepeatExamples.{end_with_repeats, ended_with_repeats}, specs.Repeats.IsOneMoreOfRepeats}

first : IsRepeat (reading 0 1_000) (readings_by Moment Import end_with_repeats.0.tx late_event)
first = record {
  there = λ none. cc none;
  level = All-from_recursion (λ (s : MeterReading). s.moment ≡ (reading 0 1_000).moment → s.mwh ≡ (reading 0 1_000).mwh) (readings_by Moment Import end_with_repeats.0.tx late_event)
      (λ _. refl, (λ e. absurd (omega (arith, e)), (λ e. absurd (omega (arith, e)), tt)));
}

second : IsRepeat (reading 14 1_200) (readings_by Moment Import end_with_repeats.0.tx late_event)
second = record {
  there = λ none. cc none;
  level = All-from_recursion (λ (s : MeterReading). s.moment ≡ (reading 14 1_200).moment → s.mwh ≡ (reading 14 1_200).mwh) (readings_by Moment Import end_with_repeats.0.tx late_event)
      (λ e. absurd (omega (arith, e)), (λ _. refl, (λ e. absurd (omega (arith, e)), tt)));
}

pub ends_with_repeats : IsOneMoreOfRepeats late_event ended_with_repeats end_with_repeats
ends_with_repeats = record {
  front = late_event;
  back = [];
  one_more = record { less_live = refl; more_live = refl };
  repeats = All-from_recursion (λ (r : MeterReading). IsRepeat r (readings_by Moment r.direction end_with_repeats.0.tx late_event)) end_with_repeats.1.event.readings (second, (first, tt));
}
