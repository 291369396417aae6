-- The words of this crate's clauses, in the order in which a reader meets them: of each what it means, and where it is
-- defined. A reader starts here, and reads on in the file of a word.

-- ---- `merge` and `merge_owned`: two feeds in one

-- the rows of a feed, with ids and texts as their bytes
pub use Rattle.gtfs_rows.specs.Content.{Content}
-- the content of a feed: its rows, with ids and headsigns in place of their numbers
pub use Rattle.gtfs_rows.specs.RowsInMemory.{content_of_parts}
-- the merged feed has the merged content, and its names say what each id became
pub use Rattle.gtfs_merge.specs.Merging.{IsMergeOf}
-- what two feeds are merged to, whole or on both sides of a service day
pub use Rattle.gtfs_merge.specs.Cutoff.{merged_as}
-- the rows of both feeds under their new ids, those of one id or one key once, ascending
pub use Rattle.gtfs_merge.specs.Merged.{merged}
-- a day from 1900-01-01 to 9998-12-31
pub use Rattle.gtfs_days.specs.Service.{is_service_day}
-- the most bytes of a written file where no limit is given
pub use Rattle.gtfs_merge.specs.Merging.{default_file_limit}
-- the zones differ; or a written file is longer than the limit; or memory ran out
pub use Rattle.gtfs_merge.specs.Merging.{IsRefusal}
-- the time zones of two feeds have different names
pub use Rattle.gtfs_merge.specs.Merged.{zone_texts_differ}
-- ---- what a merge keeps

-- all departures and boards of both feeds, each on the days that the cutoff leaves to it
pub use Rattle.gtfs_merge.specs.Merging.{KeepsDepartures}
-- the merged feed has exactly the departures of both feeds, each under its new names
pub use Rattle.gtfs_merge.specs.DeparturesOfBoth.{HasUnion}
-- a departure of the merged feed is one of both exactly where its trip is joined
pub use Rattle.gtfs_merge.specs.MergedDepartures.{SharesExactly}
-- the board of a stop lists what both feeds list of the stops that became it
pub use Rattle.gtfs_merge.specs.DeparturesOfBoth.{HasBoards}
-- a feed on one side of a service day departs exactly as before on the days of that side
pub use Rattle.gtfs_merge.specs.Cutoff.{DepartsInPart}
-- ---- the laws of all merges

-- a law holds of each merge of two sound feeds
pub use Rattle.gtfs_merge.specs.MergedDepartures.{ForSound}
-- a test of nearness compares type and parent, and reads names of parents alone
pub use Rattle.gtfs_merge.specs.MergedDepartures.{IsNearness}
-- up to how many millionths of a degree a stop is near, or that no stop is
pub use Rattle.gtfs_merge.specs.NearStops.{nearness}
-- where the zones do not differ, the merged content makes a feed
pub use Rattle.gtfs_merge.specs.MergedDepartures.{IsSoundMerged}
-- ---- `Names`: what the ids became

-- the ids of each kind of both feeds, what each became, which are joined, and which stops are near
pub use Rattle.gtfs_merge.specs.Names.{AllNames}
-- those of one kind
pub use Rattle.gtfs_merge.specs.Names.{in_kind}
-- those of one feed
pub use Rattle.gtfs_merge.specs.Names.{of_side}
-- what an id became, none where the feed has no such id
pub use Rattle.gtfs_merge.specs.Names.{new_id}
-- the word for a kind: agency, stop, route, service or trip
pub use Rattle.gtfs_merge.specs.MergeReport.{kind_name}
-- the letter of a feed: A or B
pub use Rattle.gtfs_merge.specs.MergeReport.{side_name}
