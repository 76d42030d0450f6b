-- The text of a moment is what a clock in UTC shows at it, and reads back as its whole second.
use Rattle.std.{proofs.Common.{◌≡◌, ℕ, ◌+◌, ◌/◌, ◌%◌, ◌<◌, ◌≤◌, List, [], ◌∷◌, ◌++◌, Ok, sym, ap, ◌∙◌, arith, pos, unsigned_abs, true}, proofs.lemmas.Bool.Decides.nat_tests}
use Rattle.jiff_core.{specs.declared.civil.date.Date.Date, specs.declared.civil.datetime.DateTime.DateTime, specs.declared.timestamp.Timestamp.Timestamp, specs.Calendar.day_count, specs.Date.epoch_day, specs.DateTime.civil_nanos, specs.Time.time_nanos, proofs.SignedLemmas.signed_arith, proofs.CalendarLemmas.{day_count-epoch, days_from_civil-day_count, day_count-day}, proofs.DateLemmas.epoch_day_injective, proofs.DateTimeLemmas.{civil_nanos-parts, time_nanos_bound}}
use Rattle.jiff.specs.Words.{parse_timestamp}
use Rattle.jiff_fmt.proofs.RoundTrip.{parse_timestamp-text}
use Rattle.ledger_model.specs.Moment.{IsMoment, is_moment}
use Rattle.reading_decimal.{specs.Moment.{moment_reading, moment_at, moment_within}, specs.MomentText.{year_after, month_after, date_text, time_text, text_of, clock_text, whole_second}, proofs.CalendarDays.{IsYearFound, IsMonthFound, year_after-IsYearFound, month_after-IsMonthFound}}

abbrev year_of : ℕ → ℕ × ℕ
year_of days = year_after 131 1970 days

abbrev month_of : ℕ → ℕ × ℕ
month_of days = month_after (year_of days).0 11 1 (year_of days).1

year_found : (days : ℕ) → days ≤ 47_815 → IsYearFound 1970 days 131 (year_of days)
year_found days h = year_after-IsYearFound 131 1970 days (omega arith)

month_found : (days : ℕ) → days ≤ 47_815 → IsMonthFound (year_of days).0 1 (year_of days).1 (month_of days)
month_found days h =
    month_after-IsMonthFound (year_of days).0 11 1 (year_of days).1 (omega arith) (omega arith) (omega (arith, (year_found days h).within))

-- the date so many days after 1 January 1970
abbrev date_after : (days : ℕ) → days ≤ 47_815 → Date
date_after days h = record {
  year = pos (year_of days).0;
  month = (month_of days).0;
  day = (month_of days).1 + 1;
  year_in = (omega (arith, signed_arith), omega (arith, signed_arith, (year_found days h).soon));
  month_in = ((month_found days h).first, (month_found days h).last);
  day_in = (omega arith, omega (arith, (month_found days h).within));
}

epoch_day-date_after : (days : ℕ) (h : days ≤ 47_815) → epoch_day (date_after days h) ≡ pos days
epoch_day-date_after days h =
    let y = (year_of days).0 in
    let m = (month_of days).0 in
    let d = (month_of days).1 in
    let counted : day_count (pos y) m (d + 1) ≡ 4_371_953 + days =
    omega (arith, day_count-day (pos y) m 1 (d + 1) (omega arith) (omega arith), (month_found days h).same, (year_found days h).same, day_count-epoch) in
    omega (arith, signed_arith, days_from_civil-day_count (pos y) m (d + 1), counted)

-- what a clock shows, part by part
abbrev whole_text : ℕ → ℕ → ℕ → ℕ → ℕ → ℕ → List ℕ
whole_text year month day hour minute second =
    date_text year month day ++ 84 ∷ time_text hour minute second ++ 90 ∷ []

pub clock_text-text_of : (clock : DateTime) (nanos : ℕ) → nanos < 4_102_444_800_000_000_000 → civil_nanos clock ≡ pos nanos → clock_text clock ≡ text_of nanos
clock_text-text_of clock nanos h e =
    let days = nanos / 1_000_000_000 / 86_400 in
    let parts = civil_nanos-parts clock in
    let short = time_nanos_bound clock.time in
    let day : epoch_day clock.date ≡ pos days = omega (arith, signed_arith, parts, short, e) in
    let time : time_nanos clock.time ≡ nanos % 86_400_000_000_000 = omega (arith, signed_arith, parts, short, e) in
    let few : days ≤ 47_815 = omega arith in
    let date = epoch_day_injective clock.date (date_after days few) (day ∙ sym (epoch_day-date_after days few)) in
    let hour : clock.time.hour ≡ nanos / 1_000_000_000 / 3_600 % 24 = omega arith in
    let minute : clock.time.minute ≡ nanos / 1_000_000_000 / 60 % 60 = omega arith in
    let second : clock.time.second ≡ nanos / 1_000_000_000 % 60 = omega arith in
    λ i. whole_text (ap unsigned_abs date.0 i) (date.1 i) (date.2 i) (hour i) (minute i) (second i)

-- what a clock in UTC shows at a whole second
abbrev clock_at : (nanos : ℕ) → nanos / 1_000_000_000 / 86_400 ≤ 47_815 → DateTime
clock_at nanos h = record {
  date = date_after (nanos / 1_000_000_000 / 86_400) h;
  time = record {
    hour = nanos / 1_000_000_000 / 3_600 % 24;
    minute = nanos / 1_000_000_000 / 60 % 60;
    second = nanos / 1_000_000_000 % 60;
    subsec_nanosecond = 0;
    hour_in = omega arith;
    minute_in = omega arith;
    second_in = omega arith;
    subsec_in = omega arith;
  };
}

civil_nanos-clock_at : (nanos : ℕ) (h : nanos / 1_000_000_000 / 86_400 ≤ 47_815) → civil_nanos (clock_at nanos h) ≡ pos (whole_second nanos)
civil_nanos-clock_at nanos h =
    omega (arith, signed_arith, civil_nanos-parts (clock_at nanos h), epoch_day-date_after (nanos / 1_000_000_000 / 86_400) h)

moment_at-IsMoment : (nanos : ℕ) → IsMoment nanos → moment_at (pos nanos) ≡ Ok nanos
moment_at-IsMoment nanos h =
    let is : is_moment nanos ≡ true = grind (arith, nat_tests, h.0, h.1) in
    rw is

pub moment_reading-text_of : (nanos : ℕ) → IsMoment nanos → moment_reading (text_of nanos) ≡ Ok (whole_second nanos)
moment_reading-text_of nanos h =
    let few : nanos / 1_000_000_000 / 86_400 ≤ 47_815 = omega (arith, h.1) in
    let t : Timestamp = record { nanosecond = pos (whole_second nanos); in_range = (omega (arith, signed_arith), omega (arith, signed_arith, h.1)) } in
    let read : parse_timestamp (text_of nanos) ≡ Ok (pos (whole_second nanos)) = parse_timestamp-text (clock_at nanos few) t (civil_nanos-clock_at nanos few) in
    ap moment_within read ∙ moment_at-IsMoment (whole_second nanos) (omega (arith, h.0), omega (arith, h.1))
