-- The canonical text of a value: the one text that this toolkit writes for it.
-- GTFS Schedule Reference, "Field Types", with one form chosen where the reference allows several.
use Rattle.std.specs.Prelude.{ℕ, ◌/◌, ◌%◌, ◌^◌, ◌==◌, nat_lt, if◌then◌else◌, List, [], ◌∷◌, ◌++◌, length, ℤ, pos, int_lt, unsigned_abs}
use Rattle.std.specs.Fmt.{decimal}
use Rattle.jiff_core.specs.declared.civil.date.Date.{Date}
use Rattle.gtfs_field.specs.Digits.{wide, wide_hex, without_last_zeros}
use Rattle.gtfs_field.specs.Calendar.{date_of_day}

-- a count: its digits with no zero in front
abbrev pub count_text : ℕ → List ℕ
count_text n = decimal n

-- hours: at least two digits
abbrev pub hours_text : ℕ → List ℕ
hours_text hours = if nat_lt hours 100 then wide 2 hours else decimal hours

-- a time: the hours, then :MM:SS
abbrev pub time_text : ℕ → List ℕ
time_text v = hours_text (v / 3600) ++ 58 ∷ wide 2 (v / 60 % 60) ++ 58 ∷ wide 2 (v % 60)

-- a date: YYYYMMDD
abbrev pub digits_of_date : Date → List ℕ
digits_of_date d = wide 4 (unsigned_abs d.year) ++ wide 2 d.month ++ wide 2 d.day

-- the same of a day's number, from 1900-01-01 to 9999-12-31
abbrev pub date_text : ℤ → List ℕ
date_text n = digits_of_date (date_of_day n)

-- a colour: six hexadecimal digits in upper case
abbrev pub colour_text : ℕ → List ℕ
colour_text v = wide_hex 6 v

-- degrees of a number of units of 10^-9 degree: the whole degrees, and a point with the digits of the fraction up to
-- the last that is not zero, where there is one
abbrev pub degrees_text : ℕ → List ℕ
degrees_text m =
    let fraction = without_last_zeros (wide 9 (m % 10 ^ 9)) in
    decimal (m / 10 ^ 9) ++ (if length fraction == 0 then [] else 46 ∷ fraction)

-- a coordinate: `-` where negative, and the degrees
abbrev pub coordinate_text : ℤ → List ℕ
coordinate_text v = (if int_lt v (pos 0) then 45 ∷ [] else []) ++ degrees_text (unsigned_abs v)
