pub mod SoundLinks
pub mod Along
pub mod Distinct
pub mod Seen
pub mod OneLink
pub mod Onward
pub mod OneLanding
pub mod LandingAnswers
