pub mod Choices
pub mod Colours
pub mod CoordinateTexts
mod Coordinates
pub mod Dates
mod Fractions
pub mod ListFacts
pub mod NumberFacts
pub mod Numerals
pub mod OptionFacts
pub mod OrderingFacts
pub mod TestFacts
pub mod TextOrderFacts
pub mod Texts
mod TimeColons
mod Times
pub mod Wides
pub mod Zeros
