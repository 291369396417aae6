-- The date of a day's number, on the calendar of ISO 8601 (GTFS Schedule Reference, "Field Types", Date).
use Rattle.std.specs.Prelude.{ℕ, zero, suc, ◌+◌, ◌<◌, ◌≡◌, ℤ, pos, negsuc, ◌+ℤ◌, ◌-ℤ◌, ◌<ℤ◌, unsigned_abs}
use Rattle.std.proofs.Common.{arith, refl, inl, inr, lit≤}
use Rattle.std.proofs.lemmas.Bool.{cases_lt}
use Rattle.jiff_core.specs.Calendar.{IsYear, days_in_month, days_from_civil, day_count, days_of_years, days_of_months}
use Rattle.jiff_core.specs.Date.{epoch_day}
use Rattle.jiff_core.specs.declared.civil.date.Date.{Date}
use Rattle.jiff_core.proofs.CalendarLemmas.{days_in_month_bounds}
use Rattle.jiff_core.proofs.DateLemmas.{days_from_civil-day, days_from_civil-next_month, days_from_civil-next_year, days_from_civil-max}
use Rattle.jiff_core.proofs.SignedLemmas.{signed_arith}

pub year_1900 : IsYear (pos 1900)
year_1900 = (omega (arith, signed_arith), omega (arith, signed_arith))

-- 1 January 1900
abbrev pub first_date : Date
first_date = record {
  year = pos 1900;
  month = 1;
  day = 1;
  year_in = year_1900;
  month_in = (lit≤ tt, lit≤ tt);
  day_in = (lit≤ tt, lit≤ tt);
}

pub first_date-number : epoch_day first_date ≡ negsuc 25_566
unfolding days_from_civil day_count days_of_years days_of_months
first_date-number = refl

-- the date after a date that is not the last
abbrev Next : Date → Type 0
Next d = (e : Date) × (epoch_day e ≡ epoch_day d +ℤ pos 1)

next_day : (d : Date) → d.day < days_in_month d.year d.month → Next d
next_day d h = (
  record {
    year = d.year;
    month = d.month;
    day = d.day + 1;
    year_in = d.year_in;
    month_in = d.month_in;
    day_in = (omega arith, omega arith);
  },
  let same = days_from_civil-day d.year d.month d.day (d.day + 1) d.day_in.0 (omega arith) in omega (arith, signed_arith, same),
)

next_month : (d : Date) → d.day ≡ days_in_month d.year d.month → d.month < 12 → Next d
next_month d h m = (
  record {
    year = d.year;
    month = d.month + 1;
    day = 1;
    year_in = d.year_in;
    month_in = (omega arith, omega arith);
    day_in = (lit≤ tt, omega (arith, (days_in_month_bounds d.year (d.month + 1)).1));
  },
  days_from_civil-next_month d.year d.month d.day d.month_in.0 h,
)

year_after : (y : ℤ) → IsYear y → y <ℤ pos 9999 → IsYear (y +ℤ pos 1)
year_after y h less = (omega (arith, signed_arith), omega (arith, signed_arith))

next_year : (d : Date) → d.day ≡ 31 → d.month ≡ 12 → d.year <ℤ pos 9999 → Next d
next_year d h m y = (
  record {
    year = d.year +ℤ pos 1;
    month = 1;
    day = 1;
    year_in = year_after d.year d.year_in y;
    month_in = (lit≤ tt, lit≤ tt);
    day_in = (lit≤ tt, omega (arith, (days_in_month_bounds (d.year +ℤ pos 1) 1).1));
  },
  rw (m, h) (days_from_civil-next_year d.year (d.year +ℤ pos 1) (omega (arith, signed_arith, d.year_in)) refl),
)

next_date : (d : Date) → epoch_day d <ℤ pos 2_932_896 → Next d
next_date d less = elim (cases_lt d.day (days_in_month d.year d.month)) [
  | inl inside ↦ next_day d inside
  | inr full ↦
      let last : d.day ≡ days_in_month d.year d.month = omega (arith, d.day_in) in
      elim (cases_lt d.month 12) [
        | inl early ↦ next_month d last early
        | inr late ↦
            let december : d.month ≡ 12 = omega (arith, d.month_in) in
            let new_year : d.day ≡ 31 = rw december at last in
            let apart : ¬ (d.year ≡ pos 9999) = λ e. let end = rw (e, december, new_year, days_from_civil-max) at less in omega (arith, signed_arith, end) in
            next_year d new_year december (omega (arith, signed_arith, apart, d.year_in))
      ]
]

-- the dates from 1 January 1900 to 31 December 9999
dates : (k : ℕ) → k < 2_958_464 → (d : Date) × (epoch_day d ≡ negsuc 25_566 +ℤ pos k)
dates zero h = (first_date, first_date-number)
dates (suc k) h =
    let d = dates k (omega arith) in
    let e = next_date d.0 (omega (arith, signed_arith, d.1)) in
    (e.0, omega (arith, signed_arith, d.1, e.1))

-- the date that many days after 1 January 1900, while there is one
pub date_after : ℕ → Date
date_after k = elim (cases_lt k 2_958_464) [ inl there ↦ (dates k there).0 | inr past ↦ first_date ]

pub date_after-number : (k : ℕ) → k < 2_958_464 → epoch_day (date_after k) ≡ negsuc 25_566 +ℤ pos k
unfolding date_after
date_after-number k h = elim (cases_lt k 2_958_464) as (λ v. epoch_day (elim v [ inl there ↦ (dates k there).0 | inr past ↦ first_date ]) ≡ negsuc 25_566 +ℤ pos k) [
  | inl there ↦ (dates k there).1
  | inr past ↦ absurd (omega arith)
]

-- the date of a day's number
abbrev pub date_of_day : ℤ → Date
date_of_day n = date_after (unsigned_abs (n -ℤ negsuc 25_566))
