pub mod Rates
pub mod Lines
pub mod Names
pub mod Sending
