pub mod WorkedCases
pub mod WorkedCodes
pub mod WorkedFeeds
pub mod WorkedLaws
pub mod WorkedProblems
pub mod WorkedTried
