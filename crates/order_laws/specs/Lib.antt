pub mod SameEnd
pub mod Worked
