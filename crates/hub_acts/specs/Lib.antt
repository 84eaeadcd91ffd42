pub mod Acts
pub mod LinkActs
pub mod Counting
pub mod Hubs
pub mod Links
