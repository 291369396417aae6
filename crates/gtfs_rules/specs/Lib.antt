pub mod Report
pub mod StopTimes
pub mod Words
pub mod steps
