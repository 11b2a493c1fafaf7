pub mod Callee
pub mod Behind
