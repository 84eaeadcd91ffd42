pub mod Spoken
pub mod Accepted
