pub mod Causes
pub mod Phases
pub mod Handshake
pub mod Advancing
pub mod TypedPhases
pub mod Answers
pub mod Information
pub mod Loans
