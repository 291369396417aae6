-- What only the steps of a check need.
pub mod CheckedTables
pub mod PartsOfCheck
