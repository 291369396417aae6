use Rattle.std.proofs.Common.{◌≡◌, None}
use Rattle.std.specs.Prelude.{find}
use Rattle.gtfs_table.specs.Rows.{numbers}
use Rattle.gtfs_row_rules.proofs.ZoneFacts.{has_zone}
use Rattle.gtfs_row_rules.proofs.zones.first_zone.Given as goal

-- no agency so far has a readable zone
abbrev pub invariant-loop-record : goal.invariant-loop-record
invariant-loop-record l = find (has_zone l.tables) (numbers l.yielded) ≡ None
