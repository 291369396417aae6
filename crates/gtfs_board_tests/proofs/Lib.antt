pub mod WorkedSheets
