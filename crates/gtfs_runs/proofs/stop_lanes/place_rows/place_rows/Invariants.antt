use Rattle.std.proofs.Common.{◌≡◌, ◌&&◌, ℕ, cond, nat_lt}
use Rattle.std.specs.List.{All}
use Rattle.gtfs_rows.specs.Places.{members}
use Rattle.gtfs_rows.specs.RowsInMemory.{content_of_parts, stop_ids, text_of_number}
use Rattle.gtfs_times.specs.TimedRows.{timed_parts}
use Rattle.gtfs_runs.specs.Tallies.{tally}
use Rattle.gtfs_runs.specs.StopIndex.{is_this_row}
use Rattle.gtfs_runs.specs.steps.NotedRows.{IsNoted}
use Rattle.gtfs_runs.specs.steps.PlaceRows.{departs_in_place}
use Rattle.gtfs_runs.specs.steps.FoundAtRow.{IsInside}
use Rattle.gtfs_runs.proofs.stop_lanes.place_rows.place_rows.Given as goal

-- those of the trips so far
abbrev pub invariant-loop-number : goal.invariant-loop-number
invariant-loop-number l = record {
  told : (s t r : ℕ) → l.place ≡ members (content_of_parts l.feed) (text_of_number (stop_ids l.feed) s)
      → tally (is_this_row t r) l.rows.items ≡ cond (nat_lt t l.number && departs_in_place (timed_parts l.times l.feed) s t r) 1 0;
  noted : All (IsNoted (timed_parts l.times l.feed)) l.rows.items;
  inside : All (IsInside l.feed) l.rows.items;
}
