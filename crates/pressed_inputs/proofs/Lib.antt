pub mod Entries
pub mod Takings
pub mod Mouse
pub mod Steps
