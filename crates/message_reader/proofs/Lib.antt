pub mod Longer
pub mod FrontFrames
pub mod Stepping
pub mod Endings
pub mod Completing
pub mod Consuming
