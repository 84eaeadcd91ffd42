pub mod FirstOf
pub mod Pairs
pub mod PartsTaken
pub mod Standing
pub mod Places
pub mod Advancing
pub mod Readings
pub mod Removing
