pub mod Docs
pub mod Types
pub mod Tokens
pub mod Forms
pub mod Printed
pub mod Spelled
pub mod Printable
pub mod Depth
