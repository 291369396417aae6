-- The lists of a stop and its periods, before the lists stand in two.
use Rattle.std.specs.Prelude.{◌≡◌, ◌++◌, ℕ, All, List, length}
use Rattle.gtfs_rows.specs.Content.{Content}
use Rattle.gtfs_runs.specs.LaneKinds.{IsListLane, IsPeriodLane}
use Rattle.gtfs_runs.specs.Lanes.{list_count, period_count}
use Rattle.gtfs_runs.specs.StopLanes.{AreLanesOf, LaneValue}

-- together they are the lanes of the stop, and there are as many of each kind as defined
pub record AreWhole (c : Content) (s : List ℕ) (ids : List (List ℕ)) (lists periods : List LaneValue) : Type 0 where
  pub lanes : AreLanesOf c s ids (lists ++ periods)
  pub listed : length lists ≡ list_count c s
  pub periodic : length periods ≡ period_count c s
  pub kind : All (IsListLane c) lists
  pub runs : All (IsPeriodLane c) periods
