pub mod CompleteFacts
pub mod PassedRows
pub mod PassedStopTimes
pub mod ReportLaws
