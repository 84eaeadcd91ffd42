pub mod Found
pub mod Keeping
pub mod KeepingPartings
pub mod KeepingEvents
pub mod KeepingScripts
pub mod KeepingHearing
pub mod Prefixes
pub mod SentParts
pub mod LongerRuns
pub mod SentBytes
pub mod Sources
mod Rows
