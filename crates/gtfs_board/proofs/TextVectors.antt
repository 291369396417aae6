-- Texts of dates, keys, clocks and lines, computed from their definitions.
use Rattle.std.specs.Prelude.{◌<◌, ◌++◌}
use Rattle.std.proofs.Common.{◌≡◌, [], codes, refl, sym, ap, ◌∙◌, arith, ℕ, pos, negsuc, ◌+ℤ◌, Ok, Err, lit<, lit≤}
use Rattle.std.specs.Fmt.{digits}
use Rattle.jiff_core.specs.Calendar.{days_from_civil, day_count, days_of_years, days_of_months}
use Rattle.jiff_core.specs.Date.{epoch_day}
use Rattle.jiff_core.specs.declared.civil.date.Date.{Date}
use Rattle.jiff_core.proofs.DateLemmas.{epoch_day_injective}
use Rattle.jiff_core.proofs.SignedLemmas.{signed_arith}
use Rattle.gtfs_field.specs.declared.fault.FieldFault.TheVariants.{Form, Range}
use Rattle.gtfs_board.specs.declared.departure.Mark.TheVariants as mark
use Rattle.gtfs_field.specs.Calendar.{date_after, date_after-number}
use Rattle.gtfs_field.specs.Canonical.{digits_of_date, date_text}
use Rattle.gtfs_rows.specs.Key.{Key}
use Rattle.gtfs_board.specs.KeyTexts.{key_text, key_of}
use Rattle.gtfs_board.specs.BoardLines.{clock_text, line_text}

-- ---- a date that has the number of a day is the day's date

pub same_digits : (d : Date) (k : ℕ) → k < 2_958_464 → epoch_day d ≡ negsuc 25_566 +ℤ pos k → digits_of_date (date_after k) ≡ digits_of_date d
same_digits d k inside number =
    let same = epoch_day_injective (date_after k) d (date_after-number k inside ∙ sym number) in
    rw (same.0, same.1, same.2) refl

-- 1 April 2024
april : Date
april = record {
  year = pos 2024;
  month = 4;
  day = 1;
  year_in = (omega (arith, signed_arith), omega (arith, signed_arith));
  month_in = (lit≤ tt, lit≤ tt);
  day_in = (lit≤ tt, lit≤ tt);
}

pub date : date_text (pos 19814) ≡ codes "20240401"
unfolding april days_from_civil day_count days_of_years days_of_months
date = same_digits april 45381 (lit< tt) refl

-- ---- keys

key-slashes : key_of (codes "@1711837800/A/1/2/1800/5/20240331") ≡ Ok (record { instant = pos 1711837800; trip = codes "A/1/2"; run = 1800; sequence = 5; day = pos 19813 })
unfolding days_from_civil day_count days_of_years days_of_months
key-slashes = refl

key-leading-zero : key_of (codes "@01711837800/T1/1800/5/20240331") ≡ Err Form
key-leading-zero = refl

key-minus-zero : key_of (codes "@-0/T1/0/1/20240331") ≡ Err Form
key-minus-zero = refl

key-long-run : key_of (codes "@0/T1/3600000/1/20240331") ≡ Err Range
key-long-run = refl

-- the trip's part may be empty
key-no-trip : key_of (codes "@0//0/1/20240331") ≡ Ok (record { instant = pos 0; trip = []; run = 0; sequence = 1; day = pos 19813 })
unfolding days_from_civil day_count days_of_years days_of_months
key-no-trip = refl

key-few-slashes : key_of (codes "@0/0/1/20240331") ≡ Err Form
key-few-slashes = refl

-- ---- lines

clock : clock_text (record { year = pos 2024; month = 3; day = 30; hour = 23; minute = 30; second = 0; offset = pos 3600 }) ≡ codes "2024-03-30 23:30:00+01:00"
clock = refl

clock-seconds : clock_text (record { year = negsuc 0; month = 1; day = 2; hour = 3; minute = 4; second = 5; offset = negsuc 93598 }) ≡ codes "-0001-01-02 03:04:05-25:59:59"
clock-seconds = refl

abbrev first_key : Key
first_key = record { instant = pos 1711958400; trip = codes "T1"; run = 28800; sequence = 1; day = pos 19814 }

key : key_text first_key ≡ codes "@1711958400/T1/28800/1/20240401"
unfolding digits
key = rw date refl

line : line_text (record { year = pos 2024; month = 4; day = 1; hour = 8; minute = 0; second = 0; offset = pos 0 })
    (record { key = first_key; stop = codes "S1"; route = codes "10"; headsign = []; mark = mark.Scheduled })
    ≡ codes "@1711958400/T1/28800/1/20240401\t2024-04-01 08:00:00+00:00\tS1\t10\t\ts\n"
unfolding digits
line = ap (λ t. t ++ codes "\t2024-04-01 08:00:00+00:00\tS1\t10\t\ts\n") key
