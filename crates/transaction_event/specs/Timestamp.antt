-- The timestamp of an object.
use Rattle.std.specs.Prelude.{ℕ, List, Option, Result, Ok, Err, codes}
use Rattle.serde_json.specs.Data.{Data}
use Rattle.marked_json.specs.Reading.{text_of, field_of}
use Rattle.reading_decimal.{specs.Moment.moment_reading, specs.declared.moment.MomentFault.MomentFault}
use Rattle.transaction_event.{specs.declared.fault.PayloadFault.TheVariants.Moment, specs.Steps.{Checked, ◌>>=◌}, specs.Member.required_of}

-- A text that is no moment is refused.
abbrev pub moment : Result ℕ MomentFault → Checked ℕ
moment (Ok nanos) = Ok nanos
moment (Err fault) = Err Moment

-- The moment of a text.
unfoldable pub moment_named : List ℕ → Checked ℕ
moment_named text = moment (moment_reading text)

-- The moment that a timestamp names.
abbrev pub timestamp_of : Option Data → Checked ℕ
timestamp_of member = required_of text_of member >>= moment_named

-- The moment that an object's timestamp names.
unfoldable pub timestamp : Data → Checked ℕ
timestamp tree = timestamp_of (field_of (codes "timestamp") tree)
