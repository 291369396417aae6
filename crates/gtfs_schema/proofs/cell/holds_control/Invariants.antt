use Rattle.std.proofs.Common.{◌≡◌, false, take}
use Rattle.std.specs.List.{list_any}
use Rattle.gtfs_table.specs.Blanks.{is_control}
use Rattle.gtfs_schema.proofs.cell.holds_control.Given as goal

-- the bytes so far are no control characters
abbrev pub invariant-loop-byte : goal.invariant-loop-byte
invariant-loop-byte l = list_any is_control (take l.byte-index l.bytes) ≡ false
