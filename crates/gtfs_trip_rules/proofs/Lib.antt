pub mod CoveredTripFacts
pub mod DayFacts
pub mod IdleFacts
pub mod KeptFacts
pub mod PeriodFacts
pub mod PeriodReports
pub mod ServiceFacts
pub mod ServiceIds
pub mod ServiceReports
pub mod ServiceTexts
pub mod SoundRows
pub mod SoundServices
pub mod SpanChanges
pub mod SpanFacts
pub mod SpanSteps
pub mod SplitLists
pub mod StopTimeFacts
pub mod StopTimeFields
pub mod StopTimePasses
pub mod TripCountFacts
pub mod TripNumberFacts
pub mod TripPicks
pub mod TripPositions
pub mod TripReports
pub mod TripRestated
pub mod TripSorted
pub mod TripStopTimeFacts
pub mod TripStopTimeOrder
mod TripPlaced
mod EarlierRows
mod JudgedRows
mod TogetherRows
