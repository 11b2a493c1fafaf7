pub mod Worked
pub mod Naming
