pub mod Samples
pub mod WorkedEvents
pub mod WorkedPatterns
pub mod WorkedRuns
