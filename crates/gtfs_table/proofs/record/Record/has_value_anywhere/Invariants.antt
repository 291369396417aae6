use Rattle.std.proofs.Common.{◌≡◌, not, false, take}
use Rattle.std.specs.List.{list_any}
use Rattle.gtfs_table.specs.Blanks.{cut}
use Rattle.gtfs_table.specs.Rows.{is_empty}
use Rattle.gtfs_table.proofs.record.Record.has_value_anywhere.Given as goal

-- the fields so far are blank
abbrev pub invariant-loop-n : goal.invariant-loop-n
invariant-loop-n l = list_any (λ field. not (is_empty (cut field))) (take l.n l.self) ≡ false
