-- The laws that tie the definitions of this crate to one another.
use Rattle.std.{specs.Prelude.{◌≡◌, ◌≢◌, ◌↔◌, ℕ, ◌+◌, ◌<◌, ℤ, List, IsTrue, Ok}, specs.Float.Numeral.Parts}
use Rattle.reading_decimal.{specs.declared.decimal.Unit.Unit as EnergyUnit, specs.Decimal.{IsMwh, is_decimal, mwh, parts}, specs.Grammar.{IsNumber, frac_digits, exp_digits, is_negative_exp}, specs.Moment.moment_reading, specs.MomentText.{text_of, whole_second}, specs.Quarter.{IsStart, quarter_start}}
use Rattle.ledger_model.{specs.Moment.{IsMoment, first_moment}, specs.Quarter.{IsPeriod, IsQuarterOf, quarter_at}, specs.Settling.closed_at}

-- for each decimal, multiplier and unit
abbrev pub RoundsDown : Type 0
RoundsDown = (p : Parts) (multiplier : ℤ) (unit : EnergyUnit) → IsMwh p multiplier unit (mwh p multiplier unit)

-- for each length of a settlement period, and each period of it that moments fall into
abbrev pub StartsQuarters : Type 0
StartsQuarters = (period number : ℕ) → IsPeriod period → IsQuarterOf period number → IsStart period number (quarter_start period number)

-- Each moment but the first closes the period before the one that it begins, where it begins one; elsewhere it closes the one that it lies in.
pub record ClosesQuarters : Type 0 where
  pub begins : (period moment : ℕ) → IsPeriod period → IsMoment moment → first_moment < moment
      → moment ≡ quarter_start period (quarter_at period moment) → closed_at period moment + 1 ≡ quarter_at period moment
  pub within : (period moment : ℕ) → IsPeriod period → IsMoment moment → moment ≢ quarter_start period (quarter_at period moment) → closed_at period moment ≡ quarter_at period moment
  pub first : (period : ℕ) → closed_at period first_moment ≡ quarter_at period first_moment

-- for each moment
abbrev pub ReadsBack : Type 0
ReadsBack = (moment : ℕ) → IsMoment moment → moment_reading (text_of moment) ≡ Ok (whole_second moment)

-- for each token
abbrev pub ReadsNumbers : Type 0
ReadsNumbers = (token : List ℕ) → IsTrue (is_decimal token) ↔ IsNumber token

-- the parts are those that the grammar writes: the digits before and behind the point, and the exponent's with its sign
pub record AreWritten (token : List ℕ) (written : IsNumber token) (p : Parts) : Type 0 where
  pub whole : p.whole ≡ written.int_part
  pub fraction : p.fraction ≡ frac_digits written.is_frac
  pub exponent : p.exponent ≡ exp_digits written.is_exp
  pub exponent_negative : p.exponent_negative ≡ is_negative_exp written.is_exp

-- for each number of the grammar
abbrev pub ReadsParts : Type 0
ReadsParts = (token : List ℕ) (written : IsNumber token) → AreWritten token written (parts token)
