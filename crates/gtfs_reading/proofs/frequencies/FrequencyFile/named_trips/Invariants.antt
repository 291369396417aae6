use Rattle.std.proofs.Common.{◌≡◌, length, true}
use Rattle.std.specs.List.{All}
use Rattle.gtfs_table.specs.Rows.{numbers}
use Rattle.gtfs_schema.specs.steps.Ids.{ids_of}
use Rattle.gtfs_reading.specs.NamedTrips.{is_marked, named_trip}
use Rattle.gtfs_reading.proofs.frequencies.FrequencyFile.named_trips.Given as goal

-- the trips of the rows so far
abbrev pub invariant-loop-record : goal.invariant-loop-record
invariant-loop-record l = record {
  ids : l.trips.ids.now ≡ l.fn.trips;
  count : length l.named.items ≡ length (ids_of l.fn.trips);
  marked : All (λ n. is_marked l.named.items (named_trip l.self l.fn.trips n) ≡ true) (numbers l.yielded);
}
