pub mod Tallies
pub mod Stories
pub mod Streams
pub mod Feeds
pub mod Answers
pub mod HubPlays
pub mod Playing
pub mod Standing
