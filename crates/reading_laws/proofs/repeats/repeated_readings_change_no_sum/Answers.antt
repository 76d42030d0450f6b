use Rattle.reading_laws.{proofs.RepeatExample.ends_with_repeats, proofs.RepeatLemmas.{delivery_more, event_more, event_more_at, readings_more as with_readings_more}}
use Rattle.reading_laws.proofs.repeats.repeated_readings_change_no_sum.Goals as goal

pub returns : goal.returns
returns c = record {
  one_event_more = λ d es more e m. event_more es more e m d;
  delivered = delivery_more;
  at_evses = λ d es more e m stays. event_more_at es more e m d stays;
  readings_more = λ d es more key rs m repeats. with_readings_more d rs es more key m repeats;
  example = ends_with_repeats;
}
