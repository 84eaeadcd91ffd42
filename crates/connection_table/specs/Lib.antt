pub mod PhaseOf
pub mod Readings
pub mod Calls
pub mod PartsTaken
pub mod FirstOf
pub mod Tables
pub mod Standing
pub mod Deadlines
