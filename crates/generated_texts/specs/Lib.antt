pub mod Draws
pub mod Events
pub mod Lines
pub mod Holding
pub mod Screens
pub mod Traces
pub mod Texts
