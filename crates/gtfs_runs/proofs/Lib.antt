pub mod Bounds
pub mod ContentEvents
pub mod ContentRows
pub mod Counting
mod DepartureFacts
mod Finding
mod FlatOrder
mod Grouping
pub mod Orders
mod PlaceFacts
pub mod Pushes
pub mod Runs
pub mod RowEvents
mod RowFinds
mod RowSteps
pub mod RunStarts
mod LaneTallies
mod TripFinds
mod TripsElsewhere
pub mod TripTimes
mod Ranks
mod Leads
mod Numbers
mod GroupFacts
pub mod CourseOrder
mod Latest
mod CourseCounts
mod WholeLanes
mod Chunks
mod LatestEvents
mod UntimedEvents
mod LanesMoved
pub mod TimedTrips
pub mod Tallies
pub mod TripIds
mod SeekOrder
mod AtStopFacts
mod IndexFacts
mod IndexRows
mod NumberParts
mod ChildFacts
mod PlaceRows
mod PlaceFinds
mod PlacePassings
