use Rattle.std.proofs.Common.{map, take}
use Rattle.gtfs_merge.specs.MergeEntries.{entry_value}
use Rattle.gtfs_merge.specs.TripRows.{StandInTurn, frequencies_from}
use Rattle.gtfs_merge.proofs.rows.frequencies.merged_frequencies.Given as goal

-- the frequencies of the trips so far
abbrev pub invariant-loop-trip : goal.invariant-loop-trip
invariant-loop-trip l = StandInTurn (map (frequencies_from l.sides) (take l.trip-index (map entry_value l.trips))) l.starts.items l.rows.items
