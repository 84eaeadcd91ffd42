pub mod DrawSteps
pub mod LineSteps
pub mod EventSteps
