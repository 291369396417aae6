use Rattle.std.proofs.Common.{◌≡◌, ◌++◌, drop, map, take}
use Rattle.gtfs_stop_times.specs.RenumberedRows.{renumbered_row}
use Rattle.gtfs_stop_times.proofs.renumber.renumber.Given as goal

-- the rows so far have their new numbers
abbrev pub invariant-loop-row : goal.invariant-loop-row
invariant-loop-row l = l.row-items ≡ map (renumbered_row l.stops l.headsigns) (take l.row-index l.initial.row-items) ++ drop l.row-index l.initial.row-items
