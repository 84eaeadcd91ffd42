pub mod Greetings
pub mod Writing
pub mod Numbers
pub mod Feeding
pub mod Inputs
pub mod Understanding
