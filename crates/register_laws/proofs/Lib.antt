pub mod Lists
pub mod Places
pub mod Views
pub mod Good
pub mod Renamed
pub mod Law
