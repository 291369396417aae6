mod WorkedLines
mod WorkedReports
mod WorkedOptions
mod WorkedRequests
