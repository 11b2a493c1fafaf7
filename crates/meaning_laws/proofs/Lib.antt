pub mod Elements
pub mod Examples
pub mod Follow
pub mod MoreFuel
pub mod Renamed
pub mod Listed
pub mod SeqRun
