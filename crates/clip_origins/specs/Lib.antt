pub mod Arrivals
pub mod Sources
