pub mod OneEdge
pub mod Shown
pub mod Taps
pub mod Stored
pub mod Places
