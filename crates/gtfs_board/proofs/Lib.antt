pub mod Orders
pub mod Ints
pub mod Heads
pub mod Opening
pub mod Window
pub mod Reach
pub mod Rests
pub mod Days
pub mod Candidates
pub mod Queues
pub mod Gathers
pub mod KnownDays
pub mod Waiting
pub mod Starts
pub mod Joined
pub mod KeyOrder
pub mod Slashes
pub mod KeyTexts
pub mod OneBoard
pub mod CandidateKeys
pub mod BoardKeys
pub mod Pages
pub mod Moments
pub mod LaneDays
pub mod LanesByNumber
pub mod ServiceDays
pub mod EventFacts
pub mod StopBoards
pub mod Timely
pub mod Floors
pub mod Opened
pub mod ShownRows
pub mod LastPeriods
pub mod Results
mod SheetTexts
pub mod TextVectors
mod BoardVectors
mod SheetColumns
mod SheetLists
mod SheetPatterns
mod SheetRuns
mod SheetStarts
mod Sheets
mod TimedRows
mod TimedSheets
mod TimedBoards
