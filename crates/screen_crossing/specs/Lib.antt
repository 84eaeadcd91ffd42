pub mod Points
pub mod Ways
pub mod Showing
pub mod Remembering
