-- What only the steps of a check need.
pub mod CellFaults
pub mod ColumnView
pub mod FeedIds
pub mod FieldCodes
pub mod FoundProblems
pub mod IdRows
pub mod IdSlots
pub mod Ids
pub mod KeptColumns
pub mod ProblemOrder
pub mod ReferencePicks
pub mod SitePicks
pub mod StopTypes
pub mod UnknownIds
