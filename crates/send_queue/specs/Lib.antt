pub mod QueueParts
pub mod Standing
pub mod Calls
