pub mod Ended
pub mod Examples
pub mod Walked
pub mod Rows
pub mod Guards
pub mod Extended
pub mod SoundLaw
