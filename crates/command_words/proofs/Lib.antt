pub mod Counted
pub mod WordNumbers
pub mod OneForm
pub mod SpelledNumbers
