-- The words of this crate's clauses, in the order in which a reader meets them: of each what it means, and where it is
-- defined. A reader starts here, and reads on in the file of a word.

-- ---- `Feed::new`: the feed of a dataset that passed

-- the content of a dataset: typed rows, by id, with the stop times of each trip and the dates of each service
pub use Rattle.gtfs_rows.specs.ContentRead.{content_of}
-- the rows of a feed, with ids and texts as their bytes
pub use Rattle.gtfs_rows.specs.Content.{Content}
-- the headsigns of a content's stop times, each once, in the order in which these first name them
pub use Rattle.gtfs_reading.specs.FirstNamed.{headsigns_in}
-- ---- `FeedDraft`: a feed whose stop times are not in their list yet

-- the rows of a feed, of those without stop times and of the lists of stop times
pub use Rattle.gtfs_feed.specs.FeedDrafts.{parts_with}
-- ---- `Feed::assemble`: a feed of given rows

-- each number is that of a row, each trip has its stretch of rows, and the content makes a feed
pub use Rattle.gtfs_rows.specs.RowsInMemory.{IsSoundParts}
-- the content of a feed: its rows, with ids and headsigns in place of their numbers
pub use Rattle.gtfs_rows.specs.RowsInMemory.{content_of_parts}
-- a content makes a feed: the conditions of the GTFS reference on values, order, keys and references
pub use Rattle.gtfs_rows.specs.SoundContent.{IsSound}
-- ---- rows and their numbers, which are their places in the order of ids, from 0

-- the ids of the agencies, by number
pub use Rattle.gtfs_rows.specs.RowsInMemory.{agency_ids}
-- the ids of the stops
pub use Rattle.gtfs_rows.specs.RowsInMemory.{stop_ids}
-- the ids of the routes
pub use Rattle.gtfs_rows.specs.RowsInMemory.{route_ids}
-- the ids of the services
pub use Rattle.gtfs_rows.specs.RowsInMemory.{service_ids}
-- the ids of the trips
pub use Rattle.gtfs_rows.specs.RowsInMemory.{trip_ids}
-- the stop times of each trip, at its number
pub use Rattle.gtfs_rows.specs.Trips.{stop_rows_by_trip}
-- the frequencies of each trip, at its number
pub use Rattle.gtfs_rows.specs.Trips.{frequencies_by_trip}
-- ---- `Feed::to_tables`: the written form

-- the nine tables of a content: of each file a header, and a row of canonical texts for each row
pub use Rattle.gtfs_rows.specs.WrittenContent.{written}
-- the written form passes, has the same content, and begins no file with a mark that a reader cuts
pub use Rattle.gtfs_rows.specs.WrittenForm.{IsWrittenForm}
-- ---- `Feed::file_text`: one file of it

-- the table of one of the nine files
pub use Rattle.gtfs_table.specs.Tables.{table_of}
-- the text that a table is written as, none where the file is absent
pub use Rattle.gtfs_table.specs.TableTexts.{text_of_table}
-- the table that a file with these bytes has
pub use Rattle.gtfs_table.specs.Tables.{table_of_bytes}
-- the text of a file of the written form has more bytes than a limit
pub use Rattle.gtfs_rows.specs.FileTexts.{is_longer}
-- the nine kept files, in their order
pub use Rattle.gtfs_table.specs.TablesRead.{kept_files}
-- ---- `Feed::trimmed`: the feed on one side of a service day

-- a day from 1900-01-01 to 9998-12-31
pub use Rattle.gtfs_days.specs.Service.{is_service_day}
-- the day at which the two sides meet
pub use Rattle.gtfs_days.specs.Cut.{cut_day}
-- each service keeps its days on that side, and all else stays as it is
pub use Rattle.gtfs_rows.specs.TrimmedContent.{trimmed}
-- the same of rows that name each other by numbers
pub use Rattle.gtfs_rows.specs.TrimmedContent.{trimmed_parts}
