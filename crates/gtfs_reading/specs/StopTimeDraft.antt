-- Stop times with the numbers of their headsigns, before they are those of a feed.
use Rattle.std.specs.Prelude.{◌≡◌, ℕ, List, [], length, slice_index_or}
use Rattle.csv.specs.Records.{Rising}
use Rattle.gtfs_stop_times.specs.declared.stop_row.StopRow.{StopRow}
use Rattle.gtfs_stop_times.specs.HeadsignedRows.{Headsigned}
use Rattle.gtfs_reading.specs.declared.stop_times.StopTimes.{StopTimes}

-- the lists of stop times that they become
abbrev pub lists_with : List StopRow → List ℕ → List (List ℕ) → StopTimes
lists_with rows starts texts = record { stop_times = record { rows = rows; starts = starts }; headsigns = texts }

-- all were given their headsigns, and here those of each trip begin
pub record AreCut (stop_times : Headsigned) (starts : List ℕ) : Type 0 where
  pub all_given : stop_times.left ≡ []
  pub rising : Rising 0 starts (length stop_times.rows)
  pub from_first : slice_index_or starts 0 (length stop_times.rows) ≡ 0
