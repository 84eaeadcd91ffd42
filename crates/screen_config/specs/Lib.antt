pub mod ActionKeys
pub mod AddingHotkeys
pub mod Configurations
pub mod Globals
pub mod Keyed
pub mod Sound
pub mod SoundHotkeys
pub mod Values
