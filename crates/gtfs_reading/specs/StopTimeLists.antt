-- The stop times of a dataset as lists of a feed's parts: the rows of all trips, where those of each trip begin, and headsigns.
-- GTFS Schedule Reference, stop_times.txt. Trips and stops have the numbers of their ids by bytes, from 0.
use Rattle.std.specs.Prelude.{◌≡◌, ◌<◌, ◌==◌, ℕ, Bool, true, false, List, length, map, slice_index_or, Option, Some, None}
use Rattle.std.specs.List.{list_all, list_any}
use Rattle.csv.specs.Records.{Rising}
use Rattle.gtfs_table.specs.FieldOffsets.{parts}
use Rattle.gtfs_table.specs.Tables.{Dataset}
use Rattle.gtfs_rows.specs.ContentRead.{content_of}
use Rattle.gtfs_stop_times.specs.declared.stop_row.StopRow.{StopRow as RowByNumber}
use Rattle.gtfs_rows.specs.Headsigns.{AreDistinct}
use Rattle.gtfs_rows.specs.NamedRows.{has_numbers_below, stop_row_named}
use Rattle.gtfs_reading.specs.FirstNamed.{headsigns_in}
use Rattle.gtfs_reading.specs.declared.stop_times.StopTimes.{StopTimes}

-- the ids of the stops of the content, each at its number
abbrev pub content_stop_ids : Dataset → List (List ℕ)
content_stop_ids d = map (λ s. s.stop_id) (content_of d).stops

-- the number is there, and it is this one
abbrev pub is_number : ℕ → Option ℕ → Bool
is_number k None = false
is_number k (Some n) = n == k

-- its headsign is the one of this number
abbrev pub has_headsign : ℕ → RowByNumber → Bool
has_headsign k r = is_number k r.stop_headsign

-- the lists are the stop times of the content
pub record AreStopTimesOf (d : Dataset) (lists : StopTimes) : Type 0 where
  -- a stretch of rows for each trip: as many starts as trips, rising to the end, and nothing before the first
  pub trips : length lists.stop_times.starts ≡ length (content_of d).trips
  pub rising : Rising 0 lists.stop_times.starts (length lists.stop_times.rows)
  pub from_first : slice_index_or lists.stop_times.starts 0 (length lists.stop_times.rows) ≡ 0
  -- the stretch of a trip stands for the rows of the content's trip with that number
  pub by_trip : map (map (stop_row_named (content_stop_ids d) lists.headsigns)) (parts lists.stop_times.starts lists.stop_times.rows)
      ≡ map (λ t. t.stop_rows) (content_of d).trips
  -- each number is that of a stop, or of a headsign
  pub numbers : list_all (has_numbers_below (length (content_of d).stops) (length lists.headsigns)) lists.stop_times.rows ≡ true
  -- the headsigns have their numbers in the order in which the rows first name them: so no headsign is there twice, and
  -- each is that of a row
  pub first_named : lists.headsigns ≡ headsigns_in (content_of d)
  pub distinct : AreDistinct lists.headsigns
  pub used : (k : ℕ) → k < length lists.headsigns → list_any (has_headsign k) lists.stop_times.rows ≡ true
