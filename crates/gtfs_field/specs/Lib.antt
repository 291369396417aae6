pub mod Digits
pub mod Kinds
pub mod Calendar
pub mod Canonical
pub mod TextOrder
pub mod Texts
