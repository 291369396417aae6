pub mod Filling
pub mod TimedRows
pub mod Spans
pub mod Words
