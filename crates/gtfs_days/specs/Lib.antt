pub mod Noon
pub mod Service
pub mod Zone
pub mod ZoneClock
pub mod Cut
