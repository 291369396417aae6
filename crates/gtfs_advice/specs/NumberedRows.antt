-- Words of this crate's inner contracts: rows with numbers in place of ids, as the code has them.
use Rattle.std.specs.Prelude.{◌≡◌, ◌==◌, ◌&&◌, Bool, false, List, [], ◌∷◌, map, slice_index_or, Option, None, ℤ}
use Rattle.gtfs_schema.specs.FieldValues.{if_both}
use Rattle.gtfs_rows.specs.RowChoices.{drop_off_code, pickup_code}
use Rattle.gtfs_rows.specs.NamedRows.{stop_named}
use Rattle.gtfs_rows.specs.Rows.{Trip}
use Rattle.gtfs_rows.specs.Trips.{AreStopTimes}
use Rattle.gtfs_stop_times.specs.RowTimes.{left_at, reached_at}
use Rattle.gtfs_rows.specs.RowsInMemory.{IsSoundParts, stop_row_of}
use Rattle.gtfs_rows.specs.declared.parts.Parts.{Parts}
use Rattle.gtfs_rows.specs.declared.stop.Stop.{Stop}
use Rattle.gtfs_stop_times.specs.declared.stop_row.StopRow.{StopRow}
use Rattle.gtfs_advice.specs.StopTimes.{is_too_far, latitude}

-- a trip of a feed has these stop times
pub record GoesAlong (p : Parts) (rows : List StopRow) (t : Trip) : Type 0 where
  pub sound : IsSoundParts p
  pub are : AreStopTimes p rows
  pub is : t.stop_rows ≡ map (stop_row_of p) rows

-- a test of the first two rows
abbrev pub of_two_rows : (StopRow → StopRow → Bool) → List StopRow → Bool
of_two_rows test [] = false
of_two_rows test (r ∷ []) = false
of_two_rows test (r ∷ s ∷ rest) = test r s

abbrev pub have_one_stop : StopRow → StopRow → Bool
have_one_stop r s = r.stop_id.0 == s.stop_id.0

-- riders may neither board nor leave
abbrev pub is_closed_row : StopRow → Bool
is_closed_row r = (pickup_code r.pickup_type == 1) && (drop_off_code r.drop_off_type == 1)

-- the latitude of a stop that has a place; its parent says nothing of it
abbrev pub latitude_of : Stop → Option ℤ
latitude_of s = latitude (stop_named [] s)

-- the latitude at a row, where these are those of all stops
abbrev pub latitude_there : List (Option ℤ) → StopRow → Option ℤ
latitude_there latitudes row = slice_index_or latitudes row.stop_id.0 None

abbrev pub are_too_fast : List (Option ℤ) → StopRow → StopRow → Bool
are_too_fast latitudes r s = if_both (latitude_there latitudes r) (latitude_there latitudes s)
    (λ x y. if_both (left_at r) (reached_at s) (is_too_far x y))
