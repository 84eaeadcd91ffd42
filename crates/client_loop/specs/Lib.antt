pub mod Attendants
pub mod Stages
pub mod Ends
pub mod Turns
pub mod Leaving
pub mod Attending
pub mod Joining
