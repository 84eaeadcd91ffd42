pub mod Telling
pub mod Flags
pub mod Places
pub mod Judging
pub mod InPart
pub mod Laws
