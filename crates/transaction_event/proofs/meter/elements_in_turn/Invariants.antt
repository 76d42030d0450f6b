use Rattle.std.proofs.Common.{◌≡◌}
use Rattle.marked_json.specs.Reading.{left_of}
use Rattle.transaction_event.{specs.Steps.for_each, specs.MeterValues.meter_value, specs.Growth.{GrowsAmong, MeterValueGrows}}
use Rattle.transaction_event.proofs.meter.elements_in_turn.Given as goal

-- what is still to come, from what was read so far, gives what the whole list gives, and needs more where that does
abbrev pub invariant-loop-element : goal.invariant-loop-element
invariant-loop-element l =
    (for_each meter_value l.readings (left_of l.element-iterator) ≡ for_each meter_value l.initial.readings (left_of l.fn.elements))
    × (GrowsAmong meter_value MeterValueGrows l.readings (left_of l.element-iterator) → GrowsAmong meter_value MeterValueGrows l.initial.readings (left_of l.fn.elements))
