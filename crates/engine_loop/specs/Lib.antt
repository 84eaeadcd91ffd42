pub mod Watches
pub mod Stages
pub mod Turns
pub mod Ends
pub mod Serving
pub mod Headline
