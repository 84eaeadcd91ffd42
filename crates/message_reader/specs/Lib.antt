pub mod Roles
pub mod ReaderParts
pub mod Soundness
pub mod Representation
pub mod Steps
pub mod Endings
