-- The numbers of the groups of trips, which are compared instead of them.
use Rattle.std.specs.Prelude.{◌≡◌, ◌==◌, ◌&&◌, All, Bool, List}
use Rattle.std.specs.Ordering.{nat_cmp, on, then_cmp}
use Rattle.std.specs.declared.cmp.Ordering.{Ordering}
use Rattle.gtfs_rows.specs.declared.parts.Parts.{Parts}
use Rattle.gtfs_runs.specs.declared.stop_lanes.listed.ListedEvent.{ListedEvent}
use Rattle.gtfs_runs.specs.steps.TripGroups.{group_cmp, trip_group}

-- the numbers of two compare like the groups of their trips
abbrev pub IsNumbered : Parts → ListedEvent → ListedEvent → Type 0
IsNumbered p x y = nat_cmp x.group y.group ≡ group_cmp (trip_group p x.trip) (trip_group p y.trip)

abbrev pub AreNumbered : Parts → List ListedEvent → Type 0
AreNumbered p xs = All (λ x. All (IsNumbered p x) xs) xs

-- the two have one group and one position
abbrev pub is_alike : ListedEvent → ListedEvent → Bool
is_alike x y = (x.group == y.group) && (x.row == y.row)

-- by group and position, and then by event
abbrev pub listed_cmp : ListedEvent → ListedEvent → Ordering
listed_cmp = then_cmp (on (λ x. x.group) nat_cmp)
    (then_cmp (on (λ x. x.row) nat_cmp)
    (then_cmp (on (λ x. x.at) nat_cmp)
    (then_cmp (on (λ x. x.trip) nat_cmp)
    (then_cmp (on (λ x. x.run) nat_cmp)
    (on (λ x. x.seq) nat_cmp)))))
