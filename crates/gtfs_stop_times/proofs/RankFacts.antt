-- Rows with their ranks beside them, in the order of these.
use Rattle.std.proofs.Common.{◌≡◌, ◌<◌, ◌+◌, ◌∙◌, ℕ, List, ap, arith, get_or, length, map, sym}
use Rattle.std.specs.Cmp.{IsTotalOrder, nat_cmp_total, on_total, then_total}
use Rattle.std.specs.List.{All}
use Rattle.std.specs.List.Sorted.{IsSorted}
use Rattle.std.specs.Ordering.{is_lt, nat_cmp, ordering_then}
use Rattle.std.proofs.lemmas.List.{get_or-map, length-map}
use Rattle.gtfs_stop_times.specs.declared.stop_row.StopRow.{StopRow}
use Rattle.gtfs_stop_times.specs.KeptLists.{stop_time_at, stop_times_at}
use Rattle.gtfs_stop_times.specs.RankedRows.{rank_cmp, IsRanked}
use Rattle.gtfs_stop_times.specs.StopTimeOrder.{kept_cmp}
use Rattle.gtfs_stop_times.specs.declared.row_note.RowNote.{RowNote}
use Rattle.gtfs_stop_times.specs.declared.ranked_rows.RankedRow.{RankedRow}
use Rattle.gtfs_stop_times.specs.declared.stop_time.StopTime.{StopTime}
use Rattle.gtfs_stop_times.proofs.TripRanks.{by_rank}

pub rank_total : IsTotalOrder rank_cmp
rank_total = then_total (on_total (λ (p : RankedRow). p.rank) nat_cmp_total) (on_total (λ (p : RankedRow). p.row) nat_cmp_total)

module _ (rows : List StopRow) (notes : List RowNote) where
  abbrev stop_time : ℕ → StopTime
  stop_time = stop_time_at rows notes

  -- two rows stand as their stop times do
  as_rows : (p q : RankedRow) → IsRanked rows notes p → IsRanked rows notes q → rank_cmp p q ≡ kept_cmp (stop_time p.row) (stop_time q.row)
  as_rows p q first second =
      (λ i. ordering_then (nat_cmp (first.rank i) (second.rank i)) (nat_cmp p.row q.row))
      ∙ by_rank (stop_time p.row) (stop_time q.row) first.sequence second.sequence

  pub sorted_rows : (ps : List RankedRow) → All (IsRanked rows notes) ps → IsSorted rank_cmp ps → IsSorted kept_cmp (stop_times_at rows notes (map (λ p. p.row) ps))
  sorted_rows ps each sorted k d low high =
      let size : length (stop_times_at rows notes (map (λ p. p.row) ps)) ≡ length ps = length-map (map (λ p. p.row) ps) stop_time ∙ length-map ps (λ p. p.row) in
      let first : k < length ps = omega (arith, high, size) in
      let second : k + 1 < length ps = omega (arith, high, size) in
      let z : RankedRow = record { rank = 0; row = 0 } in
      ap is_lt ((λ i. kept_cmp (at ps (k + 1) z d second i) (at ps k z d first i)) ∙ sym (as_rows (get_or ps (k + 1) z) (get_or ps k z) (each (k + 1) z second) (each k z first)))
      ∙ sorted k z low second
    where
      at : (ps : List RankedRow) (k : ℕ) (z : RankedRow) (d : StopTime) → k < length ps → get_or (stop_times_at rows notes (map (λ p. p.row) ps)) k d ≡ stop_time (get_or ps k z).row
      at ps k z d below =
          get_or-map stop_time (map (λ p. p.row) ps) k z.row d (omega (arith, below, length-map ps (λ p. p.row)))
          ∙ ap stop_time (get_or-map (λ p. p.row) ps k z z.row below)
