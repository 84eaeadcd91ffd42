pub mod Options
pub mod Outboxes
pub mod Copies
pub mod Talks
pub mod Answers
pub mod Scripts
