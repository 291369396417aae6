use Rattle.std.proofs.Common.{◌≡◌, map, take}
use Rattle.gtfs_schema.specs.Calendars.{exception_in}
use Rattle.gtfs_reading.proofs.dates.exceptions.Given as goal

-- the rows so far
abbrev pub invariant-loop-row : goal.invariant-loop-row
invariant-loop-row l = l.exceptions.items ≡ map (exception_in l.tables) (map (λ r. r.1) (take l.row-index l.rows))
