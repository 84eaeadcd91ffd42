pub mod Line
pub mod Down
pub mod Balanced
pub mod Table
pub mod Screen
pub mod Stands
pub mod Ranges
