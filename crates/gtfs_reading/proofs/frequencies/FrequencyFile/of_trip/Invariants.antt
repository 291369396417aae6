use Rattle.std.proofs.Common.{◌≡◌, map, take}
use Rattle.gtfs_rows.specs.ContentRead.{frequency_in}
use Rattle.gtfs_rows.specs.RowsInMemory.{frequency_of}
use Rattle.gtfs_reading.proofs.frequencies.FrequencyFile.of_trip.Given as goal

-- the rows so far
abbrev pub invariant-loop-row : goal.invariant-loop-row
invariant-loop-row l = map frequency_of l.periods.items ≡ map (frequency_in l.self) (map (λ r. r.1) (take l.row-index l.row-items))
