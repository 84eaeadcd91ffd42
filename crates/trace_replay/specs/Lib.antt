pub mod Replaying
pub mod Switches
