-- The words of this crate's clauses, in the order in which a reader meets them: of each what it means, and where it is
-- defined. A reader starts here, and reads on in the file of a word.

-- ---- a position of a trip, and the nearest timed rows around it

-- a stop time with its position in its trip, from 0
pub use Rattle.gtfs_times.specs.Filling.{Placed}
-- the nearest stop time before a position that has a time
pub use Rattle.gtfs_times.specs.Filling.{timed_before}
-- the nearest one after it that has a time
pub use Rattle.gtfs_times.specs.Filling.{timed_after}
-- when a vehicle leaves a stop time that has a time
pub use Rattle.gtfs_times.specs.Filling.{left}
-- when it reaches one
pub use Rattle.gtfs_times.specs.Filling.{reached}
-- ---- the time of a position between them, and a row that has it

-- when a vehicle passes a position between two stop times, at an even pace, cut to whole seconds
pub use Rattle.gtfs_times.specs.Filling.{passed_between}
-- the same where both are there, and none where one is not
pub use Rattle.gtfs_times.specs.Filling.{time_between}
-- the time of a position: that between the nearest stop times that have one
pub use Rattle.gtfs_times.specs.Filling.{time_at}
-- a stop time without a time gets that of its position, and any other stays
pub use Rattle.gtfs_times.specs.Filling.{filled_row}
-- the stop times of a trip, so filled
pub use Rattle.gtfs_times.specs.Filling.{filled_rows}
-- ---- a content with its times as given, or filled

-- the stop times of a trip as given, or filled
pub use Rattle.gtfs_times.specs.Filling.{timed_stop_rows}
-- a trip with these stop times
pub use Rattle.gtfs_times.specs.Filling.{timed_trip}
-- a content with its times as given, or with the times of all trips filled
pub use Rattle.gtfs_times.specs.Filling.{timed}
-- ---- the same of rows with numbers in place of ids, as code has them

-- the time of a position
pub use Rattle.gtfs_times.specs.TimedRows.{position_time}
-- a stop time without a time gets that of its position, and any other stays
pub use Rattle.gtfs_times.specs.TimedRows.{filled_stop_time}
-- the stop times of a trip, so filled
pub use Rattle.gtfs_times.specs.TimedRows.{filled_stop_times}
-- the stop times of a trip as given, or filled
pub use Rattle.gtfs_times.specs.TimedRows.{timed_stop_times}
-- all rows of a feed, with their times as given or filled
pub use Rattle.gtfs_times.specs.TimedRows.{timed_parts}
-- times are to be filled
pub use Rattle.gtfs_times.specs.TimedRows.{is_interpolated}
-- a stop time has neither an arrival time nor a departure time
pub use Rattle.gtfs_times.specs.TimedRows.{lacks_time}
