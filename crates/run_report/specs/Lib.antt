pub mod Texts
pub mod Messages
pub mod Notes
pub mod Ends
pub mod Source
pub mod Laws
