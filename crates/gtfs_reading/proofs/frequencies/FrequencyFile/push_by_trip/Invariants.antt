use Rattle.std.proofs.Common.{◌≡◌, get_or, length, map, take}
use Rattle.csv.specs.Records.{Rising}
use Rattle.gtfs_schema.specs.steps.Ids.{rows_by_number}
use Rattle.gtfs_rows.specs.ContentRead.{trip_in}
use Rattle.gtfs_rows.specs.RowsInMemory.{frequency_of}
use Rattle.gtfs_table.specs.FieldOffsets.{parts}
use Rattle.gtfs_reading.proofs.frequencies.FrequencyFile.push_by_trip.Given as goal

-- the trips so far
abbrev pub invariant-loop-number : goal.invariant-loop-number
invariant-loop-number l = record {
  listed : map (map frequency_of) (parts l.starts.items l.rows.items) ≡ map (λ n. (trip_in l.self n).frequencies) (take l.number (rows_by_number l.trips));
  rising : Rising 0 l.starts.items (length l.rows.items);
  first : get_or l.starts.items 0 (length l.rows.items) ≡ 0;
  end : l.number-end ≡ length (rows_by_number l.trips);
}
