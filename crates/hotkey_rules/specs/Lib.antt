pub mod KeyNames
pub mod Rules
pub mod Triggers
pub mod WellFormed
