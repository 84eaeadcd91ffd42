pub mod LinkStories
pub mod SoundLinks
pub mod LinkCalled
pub mod LinkWaits
