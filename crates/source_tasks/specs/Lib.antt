pub mod Asking
pub mod Code
pub mod Numbers
pub mod Pending
pub mod Rows
pub mod Table
pub mod Uses
