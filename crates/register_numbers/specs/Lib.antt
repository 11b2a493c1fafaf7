pub mod FirstPlaces
pub mod Renumbered
