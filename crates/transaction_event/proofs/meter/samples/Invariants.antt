use Rattle.std.proofs.Common.{◌≡◌}
use Rattle.marked_json.specs.Reading.{left_of}
use Rattle.transaction_event.{specs.Steps.for_each, specs.Sampled.sample, specs.Growth.{GrowsAmong, SampleGrows}}
use Rattle.transaction_event.proofs.meter.samples.Given as goal

-- what is still to come, from what was read so far, gives what the whole list gives, and needs more where that does
abbrev pub invariant-loop-value : goal.invariant-loop-value
invariant-loop-value l =
    (for_each (sample l.moment) l.readings (left_of l.value-iterator) ≡ for_each (sample l.moment) l.initial.readings (left_of l.fn.values))
    × (GrowsAmong (sample l.moment) (SampleGrows l.moment) l.readings (left_of l.value-iterator) → GrowsAmong (sample l.moment) (SampleGrows l.moment) l.initial.readings (left_of l.fn.values))
