pub mod ByText
pub mod Device
pub mod Disk
pub mod Folder
pub mod Held
