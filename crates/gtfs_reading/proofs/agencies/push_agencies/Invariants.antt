use Rattle.std.proofs.Common.{◌≡◌, length, map, take}
use Rattle.gtfs_schema.specs.steps.Ids.{rows_by_number}
use Rattle.gtfs_rows.specs.ContentRead.{agency_in}
use Rattle.gtfs_rows.specs.RowsInMemory.{agency_of}
use Rattle.gtfs_reading.proofs.agencies.push_agencies.Given as goal

-- the rows so far
abbrev pub invariant-loop-number : goal.invariant-loop-number
invariant-loop-number l = record {
  listed : map agency_of l.agencies.items ≡ map (agency_in l.tables) (take l.number (rows_by_number l.ids));
  end : l.number-end ≡ length (rows_by_number l.ids);
}
