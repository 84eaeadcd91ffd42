pub mod LongLines
pub mod PairSteps
pub mod Readings
pub mod RowSteps
pub mod ScriptSteps
pub mod TraceSteps
pub mod TrackSteps
pub mod WordSteps
