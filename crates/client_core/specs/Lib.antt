pub mod Clipboards
pub mod Hearing
pub mod Showing
pub mod Ends
pub mod Clients
pub mod Happenings
pub mod Kept
pub mod Injecting
