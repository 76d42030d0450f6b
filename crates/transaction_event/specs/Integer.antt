-- Integers of a payload.
use Rattle.std.{specs.Prelude.{ℕ, ◌&&◌, List, if◌then◌else◌, ℤ, Option, Some, None, option_and_then, Ok, Err}, specs.Int.Signed.le_z, specs.Option.ok_or, specs.Str.Parse.signed_digits_value}
use Rattle.serde_json.specs.Data.{Data}
use Rattle.marked_json.specs.Reading.{number_of, field_of}
use Rattle.reading_decimal.specs.Integer.{is_integer}
use Rattle.transaction_event.{specs.declared.fault.PayloadFault.TheVariants.{Range, WrongType}, specs.Steps.{Checked, checked_map, ◌>>=◌}, specs.Member.{required_of, optional}}

-- The integer that a token writes, however large; minus zero is 0.
abbrev pub integer_of_token : List ℕ → Option ℤ
integer_of_token token = if is_integer token then Some (signed_digits_value 10 token) else None

-- An integer.
abbrev pub integer_of : Data → Option ℤ
integer_of tree = option_and_then integer_of_token (number_of tree)

-- An integer from low to high, else it is out of range.
abbrev pub within : ℤ → ℤ → ℤ → Checked ℤ
within low high n = if le_z low n && le_z n high then Ok n else Err Range

-- An integer of the tree, from low to high.
abbrev pub integer_in : ℤ → ℤ → Data → Checked ℤ
integer_in low high tree = ok_or (integer_of tree) WrongType >>= within low high

-- The integer of a token, from low to high.
abbrev pub integer_within : ℤ → ℤ → List ℕ → Checked ℤ
integer_within low high token = ok_or (integer_of_token token) WrongType >>= within low high

-- A member that must be there, an integer from low to high.
abbrev pub required_integer_of : ℤ → ℤ → Option Data → Checked ℤ
required_integer_of low high member = required_of integer_of member >>= within low high

-- The same, by the member's name.
abbrev pub required_integer : ℤ → ℤ → List ℕ → Data → Checked ℤ
required_integer low high name tree = required_integer_of low high (field_of name tree)

-- An integer that is there is between low and high.
abbrev pub if_within : ℤ → ℤ → Option ℤ → Checked (Option ℤ)
if_within low high None = Ok None
if_within low high (Some n) = checked_map Some (within low high n)

-- A member that may be absent, an integer from low to high.
abbrev pub optional_integer : ℤ → ℤ → List ℕ → Data → Checked (Option ℤ)
optional_integer low high name tree = optional integer_of name tree >>= if_within low high
