use Rattle.std.proofs.Common.{◌≡◌, ◌+◌, drop}
use Rattle.gtfs_days.specs.Zone.{zone_origin}
use Rattle.gtfs_rows.specs.RowsInMemory.{content_of_parts}
use Rattle.gtfs_cli.proofs.RequestLines.{fault_from}
use Rattle.gtfs_cli.proofs.commands.boards.requests.first_fault.Given as goal

abbrev pub invariant-loop-index : goal.invariant-loop-index
invariant-loop-index l =
    fault_from (content_of_parts l.feed) (zone_origin l.zone) l.times 1 l.lines
    ≡ fault_from (content_of_parts l.feed) (zone_origin l.zone) l.times (l.index + 1) (drop l.index l.lines)
