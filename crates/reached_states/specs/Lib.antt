pub mod Reaching
pub mod NewSerials
pub mod Growing
pub mod OpenSerials
pub mod FewOpen
pub mod Promises
pub mod Dropped
pub mod ActiveScreens
