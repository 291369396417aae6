-- What a report and what passed tables hold.
use Rattle.std.specs.Prelude.{List}
use Rattle.gtfs_table.specs.Tables.{Dataset}
use Rattle.gtfs_schema.specs.Problems.{Problem, IsReport, Passes}
use Rattle.gtfs_schema.specs.declared.feed_ids.FeedIds.{FeedIds}
use Rattle.gtfs_schema.specs.steps.FeedIds.{AreIdsOf}
use Rattle.gtfs_rules.specs.StopTimes.{AreStopTimes}
use Rattle.gtfs_trip_rules.specs.KeptOrder.{AreKeptOf}
use Rattle.gtfs_stop_times.specs.declared.stop_time.StopTime.{StopTime}

-- the problems of a dataset, its ids and its stop times
pub record IsChecked (d : Dataset) (is : FeedIds) (ps : List Problem) (ss : List StopTime) : Type 0 where
  pub ids : AreIdsOf d is
  pub report : IsReport d ps
  pub stop_times : AreKeptOf d ss

pub record HasPassed (d : Dataset) (is : FeedIds) (ss : List StopTime) : Type 0 where
  pub passes : Passes d
  pub ids : AreIdsOf d is
  pub stop_times : AreStopTimes d ss
