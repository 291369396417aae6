pub mod ManyDays
mod WorkedDays
mod WorkedTexts
