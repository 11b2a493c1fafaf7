pub mod Grows
pub mod Ends
pub mod Calls
pub mod Loops
pub mod Taking
pub mod Blocks
pub mod Serial
