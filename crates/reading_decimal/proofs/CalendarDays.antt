-- The day that a number of days after 1 January 1970 names, by its year and month.
use Rattle.std.{proofs.Common.{◌≡◌, ℕ, zero, suc, ◌+◌, ◌-◌, ◌*◌, ◌<◌, ◌≤◌, inl, inr, refl, arith, pos}, proofs.lemmas.Bool.{cases_lt, lt-ltb, le-ltb}}
use Rattle.jiff_core.{specs.Calendar.{days_in_year, days_in_month, day_count}, proofs.SignedLemmas.signed_arith, proofs.CalendarLemmas.{day_count-next_year, day_count-next_month, day_count-day, day_count-last_of_year, days_in_year_bounds}}
use Rattle.reading_decimal.specs.MomentText.{year_after, month_after}

-- `found` is a year and a day of it, the same that was sought
pub record IsYearFound (year day few : ℕ) (found : ℕ × ℕ) : Type 0 where
  pub same : day_count (pos found.0) 1 1 + found.1 ≡ day_count (pos year) 1 1 + day
  pub within : found.1 < days_in_year (pos found.0)
  pub after : year ≤ found.0
  pub soon : found.0 ≤ year + few

next_year : (year : ℕ) → day_count (pos (year + 1)) 1 1 ≡ day_count (pos year) 1 1 + days_in_year (pos year)
next_year year = day_count-next_year (pos year) (pos (year + 1)) (omega (arith, signed_arith)) (omega (arith, signed_arith))

pub year_after-IsYearFound : (few year day : ℕ) → day ≤ 365 * few → IsYearFound year day few (year_after few year day)
unfolding year_after
year_after-IsYearFound zero year day h =
    record { same = refl; within = omega (arith, days_in_year_bounds (pos year)); after = omega arith; soon = omega arith }
year_after-IsYearFound (suc few) year day h =
    elim (cases_lt day (days_in_year (pos year))) [
      | inl lt ↦ rw (lt-ltb day (days_in_year (pos year)) lt) (record { same = refl; within = lt; after = omega arith; soon = omega arith })
      | inr ge ↦
          let rest = day - days_in_year (pos year) in
          let later = year_after-IsYearFound few (year + 1) rest (omega (arith, days_in_year_bounds (pos year))) in
          rw (le-ltb day (days_in_year (pos year)) ge)
          (record {
            same = omega (arith, later.same, next_year year);
            within = later.within;
            after = omega (arith, later.after);
            soon = omega (arith, later.soon);
          })
    ]

-- the same for a month of a year
pub record IsMonthFound (year month day : ℕ) (found : ℕ × ℕ) : Type 0 where
  pub same : day_count (pos year) found.0 1 + found.1 ≡ day_count (pos year) month 1 + day
  pub within : found.1 < days_in_month (pos year) found.0
  pub first : 1 ≤ found.0
  pub last : found.0 ≤ 12

in_december : (year month day : ℕ) → month ≡ 12 → day_count (pos year) month 1 + day < day_count (pos year) 1 1 + days_in_year (pos year) → day < days_in_month (pos year) month
in_december year month day e h =
    let long : days_in_month (pos year) 12 ≡ 31 = refl in
    let below : day_count (pos year) 12 1 + day < day_count (pos year) 1 1 + days_in_year (pos year) = rw e at h in
    rw e (omega (arith, long, below, day_count-last_of_year (pos year), day_count-day (pos year) 12 1 31 (omega arith) (omega arith)))

pub month_after-IsMonthFound : (year few month day : ℕ) → 1 ≤ month → month + few ≡ 12
    → day_count (pos year) month 1 + day < day_count (pos year) 1 1 + days_in_year (pos year) → IsMonthFound year month day (month_after year few month day)
unfolding month_after
month_after-IsMonthFound year zero month day low count h =
    record { same = refl; within = in_december year month day (omega arith) h; first = low; last = omega arith }
month_after-IsMonthFound year (suc few) month day low count h =
    elim (cases_lt day (days_in_month (pos year) month)) [
      | inl lt ↦ rw (lt-ltb day (days_in_month (pos year) month) lt) (record { same = refl; within = lt; first = low; last = omega arith })
      | inr ge ↦
          let rest = day - days_in_month (pos year) month in
          let next = day_count-next_month (pos year) month low in
          let later = month_after-IsMonthFound year few (month + 1) rest (omega arith) (omega arith) (omega (arith, next)) in
          rw (le-ltb day (days_in_month (pos year) month) ge)
          (record {
            same = omega (arith, later.same, next);
            within = later.within;
            first = later.first;
            last = later.last;
          })
    ]
