-- Rows with their ranks beside them.
use Rattle.std.specs.Prelude.{◌≡◌, ◌<◌, ◌^◌, ℕ, List, map}
use Rattle.std.specs.List.{All}
use Rattle.std.specs.Ordering.{nat_cmp, on, then_cmp}
use Rattle.std.specs.declared.cmp.Ordering.{Ordering}
use Rattle.gtfs_stop_times.specs.declared.stop_row.StopRow.{StopRow}
use Rattle.gtfs_stop_times.specs.KeptLists.{stop_time_at}
use Rattle.gtfs_stop_times.specs.StopTimeOrder.{rank}
use Rattle.gtfs_stop_times.specs.declared.row_note.RowNote.{RowNote}
use Rattle.gtfs_stop_times.specs.declared.ranked_rows.RankedRow.{RankedRow}

-- by rank, and rows of one rank by their numbers
abbrev pub rank_cmp : RankedRow → RankedRow → Ordering
rank_cmp = then_cmp (on (λ p. p.rank) nat_cmp) (on (λ p. p.row) nat_cmp)

-- the rank is that of the row, whose sequence fits into 32 bits
pub record IsRanked (rows : List StopRow) (notes : List RowNote) (p : RankedRow) : Type 0 where
  pub rank : p.rank ≡ rank (stop_time_at rows notes p.row)
  pub sequence : (stop_time_at rows notes p.row).stop_row.stop_sequence < 2 ^ 32

-- these rows with their ranks
pub record AreRanked (rows : List StopRow) (notes : List RowNote) (order : List ℕ) (ps : List RankedRow) : Type 0 where
  pub same : map (λ p. p.row) ps ≡ order
  pub each : All (IsRanked rows notes) ps
