use Rattle.std.proofs.Common.{◌≡◌, map, take, Some}
use Rattle.gtfs_schema.specs.KeyRules.{all_there}
use Rattle.gtfs_trip_rules.specs.ServiceFields.{exception_in}
use Rattle.gtfs_trip_rules.proofs.services.dates.Dates.read_all.Given as goal

-- the rows so far are readable
abbrev pub invariant-loop-row : goal.invariant-loop-row
invariant-loop-row l = all_there (map (exception_in l.tables l.self) (map (λ r. r.1) (take l.row-index l.rows))) ≡ Some l.exceptions.items
