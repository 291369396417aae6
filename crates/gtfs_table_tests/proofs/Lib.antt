mod WorkedCounts
mod WorkedTables
