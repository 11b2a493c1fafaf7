pub mod Forms
pub mod Tasks
pub mod Operations
pub mod Scoped
pub mod Ordered
pub mod Called
