pub mod Framing
pub mod Framers
pub mod Steps
pub mod Calls
pub mod Holding
pub mod Cuts
