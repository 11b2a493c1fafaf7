pub mod Laws
pub mod Parallels
