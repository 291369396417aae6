pub mod AllRecords
pub mod BlankFacts
pub mod BlockFacts
pub mod EndingFacts
pub mod FieldFacts
pub mod FolderFacts
pub mod MarkFacts
mod MarkedFacts
mod NearFacts
mod OtherNames
pub mod PartFacts
pub mod PieceFacts
pub mod ProgressFacts
pub mod ReadSteps
pub mod RowFacts
mod RunFacts
mod ShortFacts
pub mod StoreFacts
pub mod Utf8Fields
pub mod ValueFacts
pub mod WriteFacts
