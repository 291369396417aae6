mod ByIds
mod CalendarFacts
mod ContentIds
mod EachOnce
mod Fields
pub mod Filled
mod FrequencyFacts
mod Gathers
mod IdTexts
mod Keyed
mod NamedTrips
pub mod OfParts
mod ReferenceFacts
mod RowKeys
mod RowSays
mod RowsAlike
mod ServiceFacts
mod SortedKeys
mod Starts
pub mod StopTimesAdded
mod TransferFacts
mod TripRows
