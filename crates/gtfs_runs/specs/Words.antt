-- The words of this crate's clauses, in the order in which a reader meets them: of each what it means, and where it is
-- defined. A reader starts here, and reads on in the file of a word.

-- ---- `StopLanes::build` and `StopLanes::from_index`: the lanes of a stop

-- the content of a feed: its rows, with ids and headsigns in place of their numbers
pub use Rattle.gtfs_rows.specs.RowsInMemory.{content_of_parts}
-- a content with its times as given, or with the times of all trips filled
pub use Rattle.gtfs_times.specs.Filling.{timed}
-- the ids of the stops, by number
pub use Rattle.gtfs_rows.specs.RowsInMemory.{stop_ids}
-- the ids of the services, by number
pub use Rattle.gtfs_rows.specs.RowsInMemory.{service_ids}
-- the text that has a number in a list
pub use Rattle.gtfs_rows.specs.NamedRows.{text_of_number}
-- what clauses see of lanes: those of lists, of periods and of filled lists, and the latest second
pub use Rattle.gtfs_runs.specs.StopLanes.{StopLanesValue}
-- what clauses see of a lane: the number of its service, and its events
pub use Rattle.gtfs_runs.specs.StopLanes.{LaneValue}
-- all lanes of a stop: first the lists, then the periods, then the filled lists
pub use Rattle.gtfs_runs.specs.StopLanes.{lanes_of}
-- the lanes of a service have each of its events at the place of the stop once, ascending, and nothing else
pub use Rattle.gtfs_runs.specs.StopLanes.{AreLanesOf}
-- a run of a trip of the service passes a departure row at the place of the stop, at this second of its day
pub use Rattle.gtfs_runs.specs.Events.{is_event}
-- as many lanes as lists and periods: one for each course, and one for each frequency and departure row
pub use Rattle.gtfs_runs.specs.Lanes.{lane_count}
-- lists are of trips without frequencies, periods of one frequency, and filled lists have a filled time
pub use Rattle.gtfs_runs.specs.LaneKinds.{AreByKind}
-- the latest second at which a run passes a departure row there, 0 where there is none
pub use Rattle.gtfs_runs.specs.Lanes.{latest}
-- what clauses see of a list lane
pub use Rattle.gtfs_runs.specs.StopLanes.{list_value}
-- what clauses see of a period lane
pub use Rattle.gtfs_runs.specs.StopLanes.{period_value}
-- what clauses see of a list lane with a filled time
pub use Rattle.gtfs_runs.specs.StopLanes.{filled_value}
-- so many events, each a headway after the one before
pub use Rattle.gtfs_runs.specs.PeriodRuns.{run_events}
-- ---- `Lane`: the events of a lane, in order

-- the order of events: by time, trip, run, sequence and row
pub use Rattle.gtfs_runs.specs.EventOrder.{event_cmp}
-- an event lies above another
pub use Rattle.gtfs_runs.specs.EventOrder.{is_later}
-- an event lies above a moment: by time, trip, run and sequence
pub use Rattle.gtfs_runs.specs.EventOrder.{is_above_moment}
-- an event lies above a seek, which has the id of a trip in place of its number
pub use Rattle.gtfs_runs.specs.EventOrder.{is_above_seek}
-- the event's trip is one of the feed
pub use Rattle.gtfs_runs.specs.EventOrder.{IsOfTrips}
-- ---- `StopIndex`: the departure rows of all stops

-- what clauses see of an index: its feed, its choice of times, and the departure rows of each stop
pub use Rattle.gtfs_runs.specs.StopIndex.{StopIndexValue}
-- each stop has every departure row at it once, by trip and position, and no other
pub use Rattle.gtfs_runs.specs.StopIndex.{AreDepartureRows}
-- an index has these rows, the stops and platforms of each station, and what a board needs of each trip
pub use Rattle.gtfs_runs.specs.steps.Children.{IsIndex}
-- ---- `flat_events` and `patterns`

-- every event at the place of a stop once, by service and then in their order, and no other
pub use Rattle.gtfs_runs.specs.FlatEvents.{AreEvents}
-- each trip of a route that has a stop time stands once, under its direction and its stops, in order
pub use Rattle.gtfs_runs.specs.Patterns.{ArePatterns}
-- ---- `trips_below`

-- the order of texts by their bytes
pub use Rattle.gtfs_field.specs.TextOrder.{text_cmp}
-- the ids of the trips, by number
pub use Rattle.gtfs_rows.specs.RowsInMemory.{trip_ids}
