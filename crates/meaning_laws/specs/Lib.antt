pub mod RenamedSteps
pub mod Turns
pub mod Worked
