use Rattle.std.proofs.Common.{◌≡◌, ◌<◌, ℕ, map, take}
use Rattle.std.specs.List.{All}
use Rattle.gtfs_stop_times.specs.StopTimesByTrip.{AreWithin}
use Rattle.gtfs_table.specs.FieldOffsets.{parts}
use Rattle.gtfs_stop_times.specs.HeadsignedRows.{numbers_in}
use Rattle.gtfs_stop_times.proofs.ranges.ranges.Given as goal

-- the ranges of the trips so far
abbrev pub invariant-loop-trip : goal.invariant-loop-trip
invariant-loop-trip l = record {
  numbers : map numbers_in l.ranges.items ≡ take l.trip (parts l.starts l.order);
  within : (rows : ℕ) → All (λ n. n < rows) l.order → AreWithin rows l.ranges.items;
}
