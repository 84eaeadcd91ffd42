pub mod LocalTexts
pub mod Telling
