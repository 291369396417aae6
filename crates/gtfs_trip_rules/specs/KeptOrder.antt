-- The stop times of a dataset as they are kept: those that name a trip and have a sequence, in their order.
use Rattle.std.specs.Prelude.{◌≡◌, true, List}
use Rattle.std.specs.List.{All}
use Rattle.gtfs_table.specs.Tables.{Dataset}
use Rattle.gtfs_stop_times.specs.declared.stop_time.StopTime.{StopTime}
use Rattle.gtfs_trip_rules.specs.KeptRows.{AllKeep}
use Rattle.gtfs_stop_times.specs.KeptTimes.{is_placed}
use Rattle.gtfs_trip_rules.specs.TripOrder.{AreInOrder}

pub record AreKeptOf (d : Dataset) (rows : List StopTime) : Type 0 where
  pub order : AreInOrder d rows
  pub placed : All (λ r. is_placed r.times ≡ true) rows
  pub kept : AllKeep d rows
