-- Texts of keys, clocks and lines.
use Rattle.std.proofs.Common.{◌≡◌, ◌++◌, pos, negsuc, [], codes, refl, ap, arith, lit<, lit≤}
use Rattle.std.specs.Fmt.{digits}
use Rattle.jiff_core.specs.Calendar.{days_from_civil, day_count, days_of_years, days_of_months}
use Rattle.jiff_core.specs.declared.civil.date.Date.{Date}
use Rattle.jiff_core.proofs.SignedLemmas.{signed_arith}
use Rattle.gtfs_field.specs.Canonical.{date_text}
use Rattle.gtfs_board.specs.declared.departure.Mark.TheVariants as mark
use Rattle.gtfs_rows.specs.Key.{Key}
use Rattle.gtfs_board.specs.KeyTexts.{key_text}
use Rattle.gtfs_board.specs.BoardLines.{clock_text, line_text}
use Rattle.gtfs_board.proofs.TextVectors.{same_digits}

-- ---- 1 April 2024 is day 19814

first_of_april : Date
first_of_april = record {
  year = pos 2024;
  month = 4;
  day = 1;
  year_in = (omega (arith, signed_arith), omega (arith, signed_arith));
  month_in = (lit≤ tt, lit≤ tt);
  day_in = (lit≤ tt, lit≤ tt);
}

date : date_text (pos 19814) ≡ codes "20240401"
unfolding first_of_april days_from_civil day_count days_of_years days_of_months
date = same_digits first_of_april 45381 (lit< tt) refl

-- ---- keys

abbrev first_key : Key
first_key = record { instant = pos 1711958400; trip = codes "T1"; run = 28800; sequence = 1; day = pos 19814 }

key : key_text first_key ≡ codes "@1711958400/T1/28800/1/20240401"
unfolding digits
key = rw date refl

key-slashes : key_text (record { instant = negsuc 6; trip = codes "A/1/2"; run = 1800; sequence = 5; day = pos 19814 }) ≡ codes "@-7/A/1/2/1800/5/20240401"
unfolding digits
key-slashes = rw date refl

key-zeros : key_text (record { instant = pos 0; trip = []; run = 0; sequence = 0; day = pos 19814 }) ≡ codes "@0//0/0/20240401"
unfolding digits
key-zeros = rw date refl

-- ---- clocks

clock : clock_text (record { year = pos 2024; month = 3; day = 30; hour = 23; minute = 30; second = 0; offset = pos 3600 }) ≡ codes "2024-03-30 23:30:00+01:00"
clock = refl

clock-behind : clock_text (record { year = pos 2024; month = 4; day = 1; hour = 4; minute = 30; second = 0; offset = negsuc 12599 }) ≡ codes "2024-04-01 04:30:00-03:30"
clock-behind = refl

clock-seconds : clock_text (record { year = negsuc 0; month = 1; day = 2; hour = 3; minute = 4; second = 5; offset = negsuc 93598 }) ≡ codes "-0001-01-02 03:04:05-25:59:59"
clock-seconds = refl

-- ---- lines

line : line_text (record { year = pos 2024; month = 4; day = 1; hour = 8; minute = 0; second = 0; offset = pos 0 })
    (record { key = first_key; stop = codes "S1"; route = codes "10"; headsign = []; mark = mark.Scheduled })
    ≡ codes "@1711958400/T1/28800/1/20240401\t2024-04-01 08:00:00+00:00\tS1\t10\t\ts\n"
unfolding digits
line = ap (λ t. t ++ codes "\t2024-04-01 08:00:00+00:00\tS1\t10\t\ts\n") key

line-frequency : line_text (record { year = pos 2024; month = 4; day = 1; hour = 10; minute = 0; second = 0; offset = pos 7200 })
    (record { key = first_key; stop = codes "S1"; route = codes "10"; headsign = codes "Harbour"; mark = mark.Frequency })
    ≡ codes "@1711958400/T1/28800/1/20240401\t2024-04-01 10:00:00+02:00\tS1\t10\tHarbour\tf\n"
unfolding digits
line-frequency = ap (λ t. t ++ codes "\t2024-04-01 10:00:00+02:00\tS1\t10\tHarbour\tf\n") key
