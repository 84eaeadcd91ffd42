pub mod Table
pub mod Map
pub mod Presses
