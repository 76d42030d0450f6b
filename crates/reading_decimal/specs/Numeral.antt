-- The parts of a number without its sign, as the reader holds them.
use Rattle.std.{specs.Prelude.{◌+◌, ◌≤◌, length}, specs.Float.Numeral.Parts, specs.Str.Parse.AllDigits}
use Rattle.reading_decimal.specs.declared.numeral.Numeral.{Numeral}

-- the parts without their places in memory
abbrev pub parts_of : Numeral → Parts
parts_of n = record {
  whole = n.whole.now;
  point = n.point;
  fraction = n.fraction.now;
  exponent_negative = n.exponent_negative;
  exponent = n.exponent.now;
  len = n.len;
}

-- each part has only digits, and so few that its number fits in a u128
pub record IsShort (p : Parts) : Type 0 where
  pub whole_digits : AllDigits 10 p.whole
  pub fraction_digits : AllDigits 10 p.fraction
  pub exponent_digits : AllDigits 10 p.exponent
  pub few_digits : length p.whole + length p.fraction ≤ 36
  pub few_exponent_digits : length p.exponent ≤ 36
