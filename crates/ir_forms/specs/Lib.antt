pub mod Ops
pub mod Numbers
pub mod Names
pub mod Shapes
