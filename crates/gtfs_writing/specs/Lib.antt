pub mod LongestTexts
pub mod PlainStops
pub mod TakenRecords
