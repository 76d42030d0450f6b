-- The moment that a text names.
use Rattle.std.specs.Prelude.{ℕ, List, if◌then◌else◌, ℤ, pos, negsuc, Result, Ok, Err}
use Rattle.jiff.specs.Words.{Error, parse_timestamp}
use Rattle.ledger_model.specs.Moment.{is_moment}
use Rattle.reading_decimal.{specs.declared.moment.MomentFault.MomentFault, specs.declared.moment.MomentFault.TheVariants.{NotATime, MomentRange}}

-- an instant in nanoseconds since 1970, if it is a moment
abbrev pub moment_at : ℤ → Result ℕ MomentFault
moment_at (pos nanos) = if is_moment nanos then Ok nanos else Err MomentRange
moment_at (negsuc n) = Err MomentRange

-- what a reader gave, as nanoseconds since 1970, if it is a moment
abbrev pub moment_within : Result ℤ Error → Result ℕ MomentFault
moment_within (Err e) = Err NotATime
moment_within (Ok nanos) = moment_at nanos

-- A text names the instant that `jiff` defines for it (RFC 3339, and more).
abbrev pub moment_reading : List ℕ → Result ℕ MomentFault
moment_reading text = moment_within (parse_timestamp text)
