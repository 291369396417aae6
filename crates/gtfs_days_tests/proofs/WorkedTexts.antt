-- Texts of each kind with the values that they have.
use Rattle.std.proofs.Common.{◌≡◌, codes, refl, pos, negsuc, Ok, Err}
use Rattle.std.specs.Fmt.{digits}
use Rattle.jiff_core.specs.Calendar.{days_from_civil, day_count, days_of_years, days_of_months}
use Rattle.gtfs_field.specs.Kinds.{count_of, time_of, date_of, colour_of, coordinate_of, instant_of}
use Rattle.gtfs_field.specs.Canonical.{time_text, colour_text, coordinate_text, count_text}
use Rattle.gtfs_field.specs.declared.fault.FieldFault.TheVariants.{Form, Range}
use Rattle.gtfs_field.specs.declared.coord.Axis.TheVariants.{Latitude}

time : time_of (codes "7:05:00") ≡ Ok 25500
time = refl

time-canonical : time_text 25500 ≡ codes "07:05:00"
time-canonical = refl

time-most : time_of (codes "999:59:59") ≡ Ok 3599999
time-most = refl

time-long : time_of (codes "1000:00:00") ≡ Err Form
time-long = refl

time-minutes : time_of (codes "08:60:00") ≡ Err Form
time-minutes = refl

time-after-midnight : time_text 7199997 ≡ codes "1999:59:57"
unfolding digits
time-after-midnight = refl

date-leap : date_of (codes "20240229") ≡ Ok (pos 19782)
unfolding days_from_civil day_count days_of_years days_of_months
date-leap = refl

date-no-leap : date_of (codes "20230229") ≡ Err Range
date-no-leap = refl

date-early : date_of (codes "18991231") ≡ Err Range
date-early = refl

date-dashes : date_of (codes "2024-02-29") ≡ Err Form
date-dashes = refl

colour : colour_of (codes "00ff7f") ≡ Ok 65407
colour = refl

colour-canonical : colour_text 65407 ≡ codes "00FF7F"
colour-canonical = refl

count : count_of (codes "007") ≡ Ok 7
count = refl

count-beyond : count_of (codes "2147483648") ≡ Err Range
count-beyond = refl

latitude : coordinate_of Latitude (codes "52.1234567899") ≡ Ok (pos 52123456789)
latitude = refl

latitude-canonical : coordinate_text (pos 52123456789) ≡ codes "52.123456789"
unfolding digits
latitude-canonical = refl

latitude-small : coordinate_of Latitude (codes "-0.0000000001") ≡ Ok (pos 0)
latitude-small = refl

latitude-zero : coordinate_text (pos 0) ≡ codes "0"
unfolding digits
latitude-zero = refl

latitude-cut : coordinate_of Latitude (codes "90.0000000001") ≡ Ok (pos 90000000000)
latitude-cut = refl

latitude-beyond : coordinate_of Latitude (codes "90.000000001") ≡ Err Range
latitude-beyond = refl

latitude-bare-point : coordinate_of Latitude (codes ".5") ≡ Ok (pos 500000000)
latitude-bare-point = refl

latitude-last-point : coordinate_of Latitude (codes "5.") ≡ Ok (pos 5000000000)
latitude-last-point = refl

latitude-exponent : coordinate_of Latitude (codes "1e1") ≡ Err Form
latitude-exponent = refl

latitude-sign : coordinate_of Latitude (codes "-") ≡ Err Form
latitude-sign = refl

instant-zero : instant_of (codes "-0") ≡ Err Form
instant-zero = refl

instant-leading : instant_of (codes "01711837800") ≡ Err Form
instant-leading = refl

instant-long : instant_of (codes "1234567890123") ≡ Err Range
instant-long = refl

instant : instant_of (codes "-2208988800") ≡ Ok (negsuc 2208988799)
instant = refl

count-canonical : count_text 7 ≡ codes "7"
unfolding digits
count-canonical = refl
