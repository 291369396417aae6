use Rattle.std.proofs.Common.{◌≡◌, map, take}
use Rattle.gtfs_rows.specs.TrimmedContent.{trimmed_by_number}
use Rattle.gtfs_feed.proofs.trimmed.trimmed_services.Given as goal

-- the services so far
abbrev pub invariant-loop-service : goal.invariant-loop-service
invariant-loop-service l = l.list.items ≡ map (trimmed_by_number l.cut) (take l.service-index l.services)
