pub mod Runs
pub mod Ends
pub mod FirstFault
pub mod Stacks
