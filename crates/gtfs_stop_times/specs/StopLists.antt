-- The stops of the stop times of a trip.
use Rattle.std.specs.Prelude.{◌≡◌, ◌++◌, ℕ, List, map}
use Rattle.gtfs_stop_times.specs.declared.stop_row.StopRow.{StopRow}

abbrev pub stops_in : List StopRow → List ℕ
stops_in rows = map (λ row. row.stop_id.0) rows

-- the list stands in another one in one piece, between these two
pub record LiesIn (all list : List ℕ) : Type 0 where
  pub before : List ℕ
  pub after : List ℕ
  pub is : all ≡ before ++ (list ++ after)
