-- Services on one side of a day, reports of merges with a cutoff, and departures on the day. 19814 is 1 April 2024.
use Rattle.std.proofs.Common.{◌≡◌, ◌∷◌, [], codes, refl, ℕ, ℤ, pos, negsuc, Bool, true, false, List, Option, Some, None}
use Rattle.std.specs.Prelude.{◌*ℤ◌}
use Rattle.std.specs.Fmt.{digits}
use Rattle.gtfs_days.specs.Cut.{trimmed_service}
use Rattle.gtfs_days.specs.Service.{ServiceDates}
use Rattle.gtfs_days.specs.declared.cut.Cut.TheVariants.{Before, From}
use Rattle.gtfs_days.specs.declared.exception.Exception.TheVariants.{Added, Removed}
use Rattle.gtfs_rows.specs.Content.{Content}
use Rattle.gtfs_rows.specs.Departures.{Origins, is_departure}
use Rattle.gtfs_rows.specs.Key.{Key}
use Rattle.gtfs_rows.specs.TrimmedContent.{first_part, second_part}
use Rattle.gtfs_merge.specs.NearStops.{report}
use Rattle.gtfs_merge_tests.proofs.WorkedMerges.{feed, lines, small, stops, trip}
use Rattle.gtfs_merge_tests.proofs.WorkedNear.{moved}

abbrev each_weekday : List Bool
each_weekday = true ∷ true ∷ true ∷ true ∷ true ∷ true ∷ true ∷ []

abbrev no_weekday : List Bool
no_weekday = false ∷ false ∷ false ∷ false ∷ false ∷ false ∷ false ∷ []

-- each day from the one to the other
abbrev on_days : ℤ → ℤ → ServiceDates
on_days start end = record { week = Some (record { days = each_weekday; start = start; end = end }); exceptions = [] }

-- a calendar row of one day that names no weekday
abbrev on_no_day : ℤ → ServiceDates
on_no_day day = record { week = Some (record { days = no_weekday; start = day; end = day }); exceptions = [] }

-- from the 1st to the 3rd, cut at the 3rd
three_before : trimmed_service (Before (pos 19816)) (on_days (pos 19814) (pos 19816)) ≡ on_days (pos 19814) (pos 19815)
three_before = refl

three_from : trimmed_service (From (pos 19816)) (on_days (pos 19814) (pos 19816)) ≡ on_days (pos 19816) (pos 19816)
three_from = refl

-- of the 1st alone nothing is left from the 2nd on
nothing_left : trimmed_service (From (pos 19815)) (on_days (pos 19814) (pos 19814)) ≡ on_no_day (pos 19815)
nothing_left = refl

-- the 1st and the 2nd, and the 3rd is added
abbrev added : ServiceDates
added = record (on_days (pos 19814) (pos 19815)) { exceptions = (pos 19816, Added) ∷ [] }

added_before : trimmed_service (Before (pos 19815)) added ≡ on_days (pos 19814) (pos 19814)
added_before = refl

added_from : trimmed_service (From (pos 19816)) added ≡ record { week = None; exceptions = (pos 19816, Added) ∷ [] }
added_from = refl

-- 1 January 1900 is the first service day
added_before_all : trimmed_service (Before (negsuc 25566)) added ≡ on_no_day (negsuc 25566)
added_before_all = refl

-- an exception that removes a day stays, and needs no calendar row beside it
abbrev removed : ServiceDates
removed = record (on_days (pos 19814) (pos 19815)) { exceptions = (pos 19816, Removed) ∷ [] }

removed_from : trimmed_service (From (pos 19816)) removed ≡ record { week = None; exceptions = (pos 19816, Removed) ∷ [] }
removed_from = refl

-- ---- merges

abbrev with_days : ServiceDates → Content → Content
with_days days f = record f { services = record { service_id = codes "C1"; service = days } ∷ [] }

abbrev three_days : Content → Content
three_days f = with_days (on_days (pos 19814) (pos 19816)) f

abbrev at_ten : Content
at_ten = feed (codes "Metro") stops (trip (codes "T1") 36000 ∷ [])

-- what a merge tells with near stops or without, and with a cutoff
abbrev told : Option ℕ → ℤ → Content → Content → List ℕ
told near cutoff a b = report near (first_part (Some cutoff) a) (second_part (Some cutoff) b)

other_times : told None (pos 19816) (three_days small) (three_days at_ten)
    ≡ lines ("B\tservice\tC1\tC1_merged_1" ∷ "B\ttrip\tT1\tT1_merged_1"
    ∷ "joined agency 1" ∷ "joined stop 3" ∷ "joined route 1" ∷ "joined service 0" ∷ "joined trip 0" ∷ [])
unfolding digits
other_times = refl

itself : told None (pos 19815) small small
    ≡ lines ("B\tservice\tC1\tC1_merged_1" ∷ "B\ttrip\tT1\tT1_merged_1"
    ∷ "joined agency 1" ∷ "joined stop 3" ∷ "joined route 1" ∷ "joined service 0" ∷ "joined trip 0" ∷ [])
unfolding digits
itself = refl

-- two services of which nothing is left are the same, and are joined
joined_empty : told None (pos 19815) (with_days (on_days (pos 19816) (pos 19818)) small) (with_days (on_days (pos 19800) (pos 19814)) small)
    ≡ lines ("joined agency 1" ∷ "joined stop 3" ∷ "joined route 1" ∷ "joined service 1" ∷ "joined trip 1" ∷ [])
unfolding digits
joined_empty = refl

near_too : told (Some 1) (pos 19816) (three_days small) (three_days (moved (pos 52500000500)))
    ≡ lines ("B\tstop\tM1\tS1" ∷ "B\tservice\tC1\tC1_merged_1" ∷ "B\ttrip\tT1\tT1_merged_1"
    ∷ "joined agency 1" ∷ "joined stop 2" ∷ "joined route 1" ∷ "joined service 0" ∷ "joined trip 0" ∷ "near stop 1" ∷ [])
unfolding digits
near_too = refl

-- ---- a departure at 25:10:00 belongs to the service day before its date

abbrev both_days : ServiceDates
both_days = record { week = None; exceptions = (pos 19815, Added) ∷ (pos 19816, Added) ∷ [] }

abbrev night : Content
night = with_days both_days (feed (codes "Metro") stops (trip (codes "T1") 90600 ∷ []))

-- where each day has 86,400 seconds
abbrev even : Origins
even day = day *ℤ pos 86400

-- at 01:10:00 on the 3rd, of the 2nd
abbrev of_second : Key
of_second = record { instant = pos 1712106600; trip = codes "T1"; run = 90600; sequence = 1; day = pos 19815 }

-- at 01:10:00 on the 4th, of the 3rd
abbrev of_third : Key
of_third = record { instant = pos 1712193000; trip = codes "T1"; run = 90600; sequence = 1; day = pos 19816 }

second_before : is_departure (first_part (Some (pos 19816)) night) even of_second ≡ true
second_before = refl

second_from : is_departure (second_part (Some (pos 19816)) night) even of_second ≡ false
second_from = refl

third_before : is_departure (first_part (Some (pos 19816)) night) even of_third ≡ false
third_before = refl

third_from : is_departure (second_part (Some (pos 19816)) night) even of_third ≡ true
third_from = refl
