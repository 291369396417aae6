-- The ids of a column by their numbers, and rows that have the texts of a row.
use Rattle.std.specs.Prelude.{ℕ, List, codes}
use Prim.Native.String.{String as Literal}
use Rattle.gtfs_table.specs.Tables.{Dataset}
use Rattle.gtfs_table.specs.declared.file.File.{File}
use Rattle.gtfs_schema.specs.IdNumbers.{ids_by_bytes}
use Rattle.gtfs_rows.specs.declared.route.Route.{Route as RouteRow}
use Rattle.gtfs_rows.specs.declared.stop.Stop.{Stop as StopRow}
use Rattle.gtfs_rows.specs.declared.trip.Trip.{Trip as TripRow}
use Rattle.gtfs_table.specs.declared.file.File.TheVariants as file
use Rattle.gtfs_schema.specs.RowConditions.{word_in}
use Rattle.gtfs_rows.specs.ContentRead.{text_at}

-- the ids of a column by their numbers
abbrev pub ids_of : Dataset → File → Literal → List (List ℕ)
ids_of d x column = ids_by_bytes d x (codes column)

-- a stop that has the texts of a row
abbrev pub stop_with_texts : Dataset → ℕ → StopRow → StopRow
stop_with_texts d n s = record s {
  stop_id = text_at d file.Stops n "stop_id";
  stop_code = word_in d file.Stops n "stop_code";
  stop_name = word_in d file.Stops n "stop_name";
  tts_stop_name = word_in d file.Stops n "tts_stop_name";
  stop_desc = word_in d file.Stops n "stop_desc";
  stop_url = word_in d file.Stops n "stop_url";
  platform_code = word_in d file.Stops n "platform_code";
}

-- a route that has the texts of a row
abbrev pub route_with_texts : Dataset → ℕ → RouteRow → RouteRow
route_with_texts d n r = record r {
  route_id = text_at d file.Routes n "route_id";
  route_short_name = word_in d file.Routes n "route_short_name";
  route_long_name = word_in d file.Routes n "route_long_name";
  route_desc = word_in d file.Routes n "route_desc";
  route_url = word_in d file.Routes n "route_url";
}

-- a trip that has the texts of a row
abbrev pub trip_with_texts : Dataset → ℕ → TripRow → TripRow
trip_with_texts d n t = record t {
  trip_id = text_at d file.Trips n "trip_id";
  trip_headsign = word_in d file.Trips n "trip_headsign";
  trip_short_name = word_in d file.Trips n "trip_short_name";
}
