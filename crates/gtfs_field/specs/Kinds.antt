-- The kinds of field: which texts a kind accepts, and the value of each.
-- GTFS Schedule Reference, "Field Types": Time, Date, Color, Non-negative integer, Enum, Latitude and
-- Longitude. The limits of the values, and the instant of a key text, are this toolkit's.
-- Each function answers the value, Form where the text lacks the shape of its kind, or Range where it
-- has the shape and the value lies outside the limits.
use Rattle.std.specs.Prelude.{ℕ, ◌+◌, ◌*◌, ◌/◌, ◌^◌, ◌==◌, ◌&&◌, ◌||◌, not, Bool, nat_lt, nat_le, if◌then◌else◌, List, length, take, drop, filter, count_by, slice_index, ℤ, pos, neg_ℤ, Result, Ok, Err}
use Rattle.std.specs.List.{list_any, list_all, before_first, after_first}
use Rattle.std.specs.Str.{all_ascii_digits}
use Rattle.std.specs.Str.Parse.{digits_value}
use Rattle.std.specs.Char.{digit_value}
use Rattle.jiff_core.specs.Calendar.{days_in_month, days_from_civil}
use Rattle.gtfs_field.specs.Digits.{is_number, number, is_wide}
use Rattle.gtfs_field.specs.declared.fault.FieldFault.{FieldFault}
use Rattle.gtfs_field.specs.declared.fault.FieldFault.TheVariants.{Form, Range}
use Rattle.gtfs_field.specs.declared.coord.Axis.{Axis}
use Rattle.gtfs_field.specs.declared.coord.Axis.TheVariants.{Latitude, Longitude}

-- ':', '.', '-', and either sign
abbrev pub is_colon : ℕ → Bool
is_colon b = b == 58

abbrev pub is_point : ℕ → Bool
is_point b = b == 46

abbrev pub is_minus : ℕ → Bool
is_minus b = b == 45

abbrev pub is_sign : ℕ → Bool
is_sign b = (b == 43) || (b == 45)

-- a value within its limits, and else Range
abbrev pub within : {V : Type 0} → Bool → V → Result V FieldFault
within inside v = if inside then Ok v else Err Range

-- what a text of the shape gives, and else Form
abbrev pub shaped : {V : Type 0} → Bool → Result V FieldFault → Result V FieldFault
shaped has_shape r = if has_shape then r else Err Form

-- a count: digits, at least one; 0 to 2,147,483,647
abbrev pub count_of : List ℕ → Result ℕ FieldFault
count_of t = shaped (is_number t) (within (nat_le (number t) 2_147_483_647) (number t))

-- a choice: a count in one of these ranges of numbers, each given by its first and its last
abbrev pub is_in_ranges : List (ℕ × ℕ) → ℕ → Bool
is_in_ranges ranges n = list_any (λ r. nat_le r.0 n && nat_le n r.1) ranges

abbrev pub choice_of : List (ℕ × ℕ) → List ℕ → Result ℕ FieldFault
choice_of ranges t = shaped (is_number t) (within (is_in_ranges ranges (number t)) (number t))

-- two digits that write a number below 60
abbrev pub is_sixtieth : List ℕ → Bool
is_sixtieth ds = is_wide 2 ds && nat_lt (number ds) 60

-- one to three digits of hours, and MM:SS after the first colon
abbrev pub has_time_shape : List ℕ → List ℕ → Bool
has_time_shape hours rest =
    is_number hours && nat_le (length hours) 3 && (length rest == 5) && is_colon (slice_index rest 2)
    && is_sixtieth (take 2 rest) && is_sixtieth (drop 3 rest)

-- whole seconds from the origin of the service day, from what stands before the first colon and after it
abbrev pub time_from : List ℕ → List ℕ → Result ℕ FieldFault
time_from hours rest =
    shaped (has_time_shape hours rest) (Ok (3600 * number hours + 60 * number (take 2 rest) + number (drop 3 rest)))

-- a time: H:MM:SS, with minutes and seconds below 60
abbrev pub time_of : List ℕ → Result ℕ FieldFault
time_of t = time_from (before_first is_colon t) (after_first is_colon t)

-- the calendar has this day, in a year from 1900 to 9999
abbrev pub is_calendar_day : ℕ → ℕ → ℕ → Bool
is_calendar_day y m d =
    nat_le 1900 y && nat_le y 9999 && nat_le 1 m && nat_le m 12 && nat_le 1 d && nat_le d (days_in_month (pos y) m)

-- the number of a calendar day, 0 for 1970-01-01
abbrev pub day_at : ℕ → ℕ → ℕ → Result ℤ FieldFault
day_at y m d = within (is_calendar_day y m d) (days_from_civil (pos y) m d)

-- a date: YYYYMMDD
abbrev pub date_of : List ℕ → Result ℤ FieldFault
date_of t = shaped (is_wide 8 t) (day_at (number (take 4 t)) (number (take 2 (drop 4 t))) (number (drop 6 t)))

-- six hexadecimal digits of either case
abbrev pub is_six_hexadecimal : List ℕ → Bool
is_six_hexadecimal t = (length t == 6) && list_all (λ b. nat_lt (digit_value b) 16) t

-- a colour: 24 bits
abbrev pub colour_of : List ℕ → Result ℕ FieldFault
colour_of t = shaped (is_six_hexadecimal t) (Ok (digits_value 16 t))

-- the most degrees that an axis has on either side of zero
abbrev pub most_degrees : Axis → ℕ
most_degrees Latitude = 90
most_degrees Longitude = 180

-- a coordinate's text without its sign
abbrev pub unsigned_part : List ℕ → List ℕ
unsigned_part t = if is_sign (slice_index t 0) then drop 1 t else t

-- the digits of a text that may have points among them
abbrev pub without_points : List ℕ → List ℕ
without_points body = filter (λ b. not (is_point b)) body

-- digits with at most one point among them, and at least one digit
abbrev pub has_coordinate_shape : List ℕ → Bool
has_coordinate_shape body = nat_le (count_by is_point body) 1 && is_number (without_points body)

-- units of 10^-9 degree, further digits cut off
abbrev pub magnitude : List ℕ → ℕ
magnitude body = number (without_points body) * 10 ^ 9 / 10 ^ length (after_first is_point body)

-- the same from what stands before the first point and after it: digits, not both empty, and their value
abbrev pub are_digits : List ℕ → List ℕ → Bool
are_digits whole fraction =
    not ((length whole == 0) && (length fraction == 0)) && (all_ascii_digits whole && all_ascii_digits fraction)

abbrev pub billionths : List ℕ → List ℕ → ℕ
billionths whole fraction = number whole * 10 ^ 9 + number fraction * 10 ^ 9 / 10 ^ length fraction

-- a coordinate: an optional sign, and digits with at most one point; the limit is judged after the cut
abbrev pub coordinate_of : Axis → List ℕ → Result ℤ FieldFault
coordinate_of axis t =
    let m = magnitude (unsigned_part t) in
    shaped (has_coordinate_shape (unsigned_part t))
    (within (nat_le m (most_degrees axis * 10 ^ 9)) (if is_minus (slice_index t 0) then neg_ℤ (pos m) else pos m))

-- a number that begins with no zero, unless it is 0
abbrev pub is_plain_number : List ℕ → Bool
is_plain_number ds = is_number ds && ((length ds == 1) || not (slice_index ds 0 == 48))

-- such a number of at most 12 digits
abbrev pub plain_number_of : List ℕ → Result ℕ FieldFault
plain_number_of ds = shaped (is_plain_number ds) (within (nat_le (length ds) 12) (number ds))

-- the instant of a key text: seconds since 1970-01-01T00:00:00Z, with no leading zero, no `-0` and at most 12 digits
abbrev pub instant_of : List ℕ → Result ℤ FieldFault
instant_of t =
    let is_negative = is_minus (slice_index t 0) in
    let ds = if is_negative then drop 1 t else t in
    let n = if is_negative then neg_ℤ (pos (number ds)) else pos (number ds) in
    shaped (is_plain_number ds && not (is_negative && (slice_index ds 0 == 48))) (within (nat_le (length ds) 12) n)
