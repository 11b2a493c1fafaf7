pub mod Growing
pub mod Creating
pub mod Absent
pub mod RootEnd
pub mod Ending
pub mod Rooting
pub mod Rows
