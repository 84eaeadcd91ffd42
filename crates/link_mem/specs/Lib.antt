pub mod LinkStreams
pub mod LinkAnswers
pub mod LinkPlays
pub mod LinkPlaying
pub mod LinkStanding
