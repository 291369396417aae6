mod TakenWords
mod GivenTexts
mod Flags
mod AskedAlone
pub mod GtfsWords
pub mod OneAsked
