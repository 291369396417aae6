-- Reports of merges with near stops. 52.5 degrees are 52500000000 units.
use Rattle.std.proofs.Common.{◌≡◌, ◌∷◌, [], codes, refl, ℕ, ℤ, pos, List, Some, None}
use Rattle.std.specs.Fmt.{digits}
use Rattle.gtfs_rows.specs.Content.{Content}
use Rattle.gtfs_rows.specs.Rows.{Stop}
use Rattle.gtfs_merge.specs.NearStops.{report}
use Rattle.gtfs_merge_tests.proofs.WorkedMerges.{feed, lines, small, stop, stop_row, trip}

-- M1 in place of S1, at a latitude in units of 10^-9 degree
abbrev mill : List ℕ → ℤ → Stop
mill id latitude = record (stop id (codes "Mill") 0) { stop_lat = Some latitude }

abbrev others : List Stop
others = stop (codes "S2") (codes "Lake") 0 ∷ stop (codes "S3") (codes "Hill") 0 ∷ []

abbrev pub moved : ℤ → Content
moved latitude = feed (codes "Metro") (mill (codes "M1") latitude ∷ others)
    (record (trip (codes "T1") 28800) { stop_rows = stop_row (codes "M1") 28800 1 ∷ stop_row (codes "S2") 29400 2 ∷ [] } ∷ [])

near_one : report (Some 1) small (moved (pos 52500000500))
    ≡ lines ("B\tstop\tM1\tS1" ∷ "joined agency 1" ∷ "joined stop 2" ∷ "joined route 1" ∷ "joined service 1" ∷ "joined trip 1" ∷ "near stop 1" ∷ [])
unfolding digits
near_one = refl

near_none : report (Some 0) small (moved (pos 52500000500))
    ≡ lines ("B\ttrip\tT1\tT1_merged_1" ∷ "joined agency 1" ∷ "joined stop 2" ∷ "joined route 1" ∷ "joined service 1" ∷ "joined trip 0" ∷ "near stop 0" ∷ [])
unfolding digits
near_none = refl

near_edge : report (Some 1) small (moved (pos 52500001000))
    ≡ lines ("B\tstop\tM1\tS1" ∷ "joined agency 1" ∷ "joined stop 2" ∷ "joined route 1" ∷ "joined service 1" ∷ "joined trip 1" ∷ "near stop 1" ∷ [])
unfolding digits
near_edge = refl

near_beyond : report (Some 1) small (moved (pos 52500001001))
    ≡ lines ("B\ttrip\tT1\tT1_merged_1" ∷ "joined agency 1" ∷ "joined stop 2" ∷ "joined route 1" ∷ "joined service 1" ∷ "joined trip 0" ∷ "near stop 0" ∷ [])
unfolding digits
near_beyond = refl

abbrev two_mills : Content
two_mills = feed (codes "Metro") (mill (codes "M1") (pos 52500000000) ∷ mill (codes "M2") (pos 52500000000) ∷ others)
    (record (trip (codes "T1") 28800) { stop_rows = stop_row (codes "M1") 28800 1 ∷ stop_row (codes "M2") 29100 2 ∷ stop_row (codes "S2") 29400 3 ∷ [] } ∷ [])

near_two : report (Some 0) small two_mills
    ≡ lines ("B\tstop\tM1\tS1" ∷ "B\tstop\tM2\tS1" ∷ "B\ttrip\tT1\tT1_merged_1"
    ∷ "joined agency 1" ∷ "joined stop 2" ∷ "joined route 1" ∷ "joined service 1" ∷ "joined trip 0" ∷ "near stop 2" ∷ [])
unfolding digits
near_two = refl

-- without the option no line tells of near stops
none_told : report None small small
    ≡ lines ("joined agency 1" ∷ "joined stop 3" ∷ "joined route 1" ∷ "joined service 1" ∷ "joined trip 1" ∷ [])
unfolding digits
none_told = refl

-- a stop whose own id is near, too, becomes the least; one that is near itself alone keeps its id, and is only counted
abbrev twins : Content
twins = feed (codes "Metro") (mill (codes "S0") (pos 52500000000) ∷ mill (codes "S1") (pos 52500000000) ∷ []) []

abbrev told : Stop → Content
told s = feed (codes "Metro") (record s { stop_desc = Some (codes "new") } ∷ []) []

near_least : report (Some 0) twins (told (mill (codes "S1") (pos 52500000000)))
    ≡ lines ("B\tstop\tS1\tS0" ∷ "joined agency 1" ∷ "joined stop 0" ∷ "joined route 1" ∷ "joined service 1" ∷ "joined trip 0" ∷ "near stop 1" ∷ [])
unfolding digits
near_least = refl

near_itself : report (Some 0) twins (told (mill (codes "S0") (pos 52500000000)))
    ≡ lines ("joined agency 1" ∷ "joined stop 0" ∷ "joined route 1" ∷ "joined service 1" ∷ "joined trip 0" ∷ "near stop 1" ∷ [])
unfolding digits
near_itself = refl
