-- The text of a moment: its whole second in UTC, as RFC 3339 writes it.
use Rattle.std.specs.Prelude.{ℕ, zero, suc, ◌+◌, ◌-◌, ◌*◌, ◌/◌, ◌%◌, List, [], ◌∷◌, ◌++◌, nat_lt, if◌then◌else◌, pos, unsigned_abs}
use Rattle.jiff.specs.Words.{days_in_year, days_in_month}
use Rattle.jiff_core.specs.declared.civil.datetime.DateTime.{DateTime}

-- The year of a day, and the day's place in it from 0. The day is given by its distance from the
-- start of a year; its year must be one of the next few.
unfoldable pub year_after : ℕ → ℕ → ℕ → ℕ × ℕ
year_after zero year day = (year, day)
year_after (suc few) year day =
    if nat_lt day (days_in_year (pos year)) then (year, day)
    else year_after few (year + 1) (day - days_in_year (pos year))

-- The month of a day, and the day's place in it from 0. The day is given by its distance from the
-- start of a month; its month must be one of the next few.
unfoldable pub month_after : ℕ → ℕ → ℕ → ℕ → ℕ × ℕ
month_after year zero month day = (month, day)
month_after year (suc few) month day =
    if nat_lt day (days_in_month (pos year) month) then (month, day)
    else month_after year few (month + 1) (day - days_in_month (pos year) month)

-- a number below 100, in two digits
abbrev pub two_digits : ℕ → List ℕ
two_digits n = (48 + n / 10) ∷ (48 + n % 10) ∷ []

-- a number below 10,000, in four digits
abbrev pub four_digits : ℕ → List ℕ
four_digits n = two_digits (n / 100) ++ two_digits (n % 100)

-- a year, month and day as `2026-03-01`
abbrev pub date_text : ℕ → ℕ → ℕ → List ℕ
date_text year month day = four_digits year ++ 45 ∷ two_digits month ++ 45 ∷ two_digits day

-- an hour, minute and second as `10:00:00`
abbrev pub time_text : ℕ → ℕ → ℕ → List ℕ
time_text hour minute second = two_digits hour ++ 58 ∷ two_digits minute ++ 58 ∷ two_digits second

-- the day so many days after 1 January 1970; the years of moments end within the next 131
abbrev pub day_text : ℕ → List ℕ
day_text days =
    let year = year_after 131 1970 days in
    let month = month_after year.0 11 1 year.1 in
    date_text year.0 month.0 (month.1 + 1)

-- the nanoseconds of a moment as `2026-03-01T10:00:00Z`, part seconds dropped
abbrev pub text_of : ℕ → List ℕ
text_of nanos =
    let seconds = nanos / 1_000_000_000 in
    day_text (seconds / 86_400) ++ 84 ∷ time_text (seconds / 3_600 % 24) (seconds / 60 % 60) (seconds % 60) ++ 90 ∷ []

-- the nanoseconds of a moment without its part of a second
abbrev pub whole_second : ℕ → ℕ
whole_second nanos = nanos / 1_000_000_000 * 1_000_000_000

-- what a clock shows, as `2026-03-01T10:00:00Z`
abbrev pub clock_text : DateTime → List ℕ
clock_text clock =
    date_text (unsigned_abs clock.date.year) clock.date.month clock.date.day
    ++ 84 ∷ time_text clock.time.hour clock.time.minute clock.time.second ++ 90 ∷ []
