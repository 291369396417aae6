use Rattle.std.proofs.Common.{◌≡◌, map}
use Rattle.std.specs.List.{flat_map}
use Rattle.gtfs_runs.specs.Patterns.{AreGroups, entries_under, entry_value}
use Rattle.gtfs_runs.proofs.pattern.grouped.Given as goal

-- the trips so far stand in groups
abbrev pub invariant-loop-trip : goal.invariant-loop-trip
invariant-loop-trip l = (flat_map entries_under l.found.items ≡ map entry_value l.yielded) × AreGroups l.found.items
