pub mod AddFacts
pub mod BoolFacts
pub mod CellFacts
pub mod EachFacts
mod EqualFacts
pub mod FieldFacts
pub mod FieldRowFacts
pub mod FoundFacts
pub mod IdFacts
pub mod IdNumberFacts
pub mod NamedFacts
pub mod PlainTexts
pub mod ReadFacts
pub mod ReferenceFacts
pub mod ReportingFacts
pub mod RowFacts
pub mod RuleFacts
pub mod SiteFacts
mod SlotFacts
pub mod StepFacts
pub mod StopTypeFacts
pub mod ValueFacts
