pub mod Ranges
pub mod Adding
pub mod Apart
pub mod Walks
pub mod Landings
pub mod Places
