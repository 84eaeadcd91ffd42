pub mod Bare
pub mod LineSteps
pub mod WordSteps
pub mod Keeping
pub mod TotalSteps
