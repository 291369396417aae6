use Rattle.std.proofs.Common.{◌≡◌}
use Rattle.gtfs_rows.specs.RowsInMemory.{stop_row_of}
use Rattle.gtfs_merge.specs.Renaming.{stop_b, stop_row_with}
use Rattle.gtfs_merge.specs.SameRows.{same_stop_row}
use Rattle.gtfs_merge.specs.SameByNumber.{same_stop_rows_in}
use Rattle.gtfs_merge.specs.MergedSides.{content_a, content_b, nearness_of}
use Rattle.gtfs_merge.proofs.SameLists.{same_from}
use Rattle.gtfs_merge.proofs.comparing.stop_times.are_same_stop_times.Given as goal

-- what is left decides
abbrev pub invariant-loop-number : goal.invariant-loop-number
invariant-loop-number l =
    let rename = stop_b (nearness_of l.sides) (content_a l.sides) (content_b l.sides) in
    same_stop_rows_in l.sides.a.now l.sides.b.now rename l.rows_a l.rows_b ≡ same_from same_stop_row (stop_row_of l.sides.a.now) (λ r. stop_row_with rename (stop_row_of l.sides.b.now r)) l.rows_a l.rows_b l.number
