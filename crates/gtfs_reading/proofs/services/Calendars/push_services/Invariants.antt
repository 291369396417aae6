use Rattle.std.proofs.Common.{◌≡◌, length, map, take}
use Rattle.gtfs_rows.specs.ContentRead.{service_row_in}
use Rattle.gtfs_rows.specs.RowsInMemory.{service_of}
use Rattle.gtfs_reading.proofs.services.Calendars.push_services.Given as goal

-- the services so far
abbrev pub invariant-loop-number : goal.invariant-loop-number
invariant-loop-number l = record {
  listed : map service_of l.services.items ≡ map (service_row_in l.self) (take l.number l.ids);
  end : l.number-end ≡ length l.ids;
}
