use Rattle.std.proofs.Common.{◌≡◌}
use Rattle.gtfs_rows.specs.RowsInMemory.{frequency_of}
use Rattle.gtfs_merge.specs.SameRows.{same_frequency}
use Rattle.gtfs_merge.specs.SameByNumber.{same_frequencies_in}
use Rattle.gtfs_merge.proofs.SameLists.{same_from}
use Rattle.gtfs_merge.proofs.comparing.frequencies.are_same_frequencies.Given as goal

-- what is left decides, and both lists have as much
abbrev pub invariant-loop-number : goal.invariant-loop-number
invariant-loop-number l = same_frequencies_in l.a l.b ≡ same_from same_frequency frequency_of frequency_of l.a l.b l.number
