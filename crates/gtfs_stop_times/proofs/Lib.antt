pub mod Turns
pub mod Places
mod MarkedTrips
mod RangeFacts
mod ByTripFacts
mod HeadsignedFacts
pub mod KeptListFacts
mod RankFacts
mod StretchFacts
mod TripRanks
mod RowNumberFacts
mod JoinedLists
mod StopListFacts
