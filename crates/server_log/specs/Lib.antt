pub mod LocalText
pub mod Telling
