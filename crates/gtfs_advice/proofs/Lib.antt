mod Letters
pub mod Telling
pub mod Numbers
pub mod Marking
mod Windows
mod Rows
mod SameCourses
mod LastRows
mod AlikeTrips
mod RepeatedTrips
mod TripTelling
mod CourseLists
mod AgencyFacts
pub mod TripViews
pub mod Repeats
mod NamedRoutes
mod NamedAsOthers
mod RouteFacts
mod StopFacts
mod Seasons
mod Gaps
mod KnownDays
mod Waits
mod UsedFacts
mod ToldDays
