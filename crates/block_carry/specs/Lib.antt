pub mod Same
pub mod Rows
pub mod Laid
pub mod Stands
pub mod Follows
pub mod Laws
pub mod Taken
pub mod Held
