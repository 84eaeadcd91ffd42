pub mod Moments
pub mod Taking
pub mod OneTarget
pub mod Sharing
