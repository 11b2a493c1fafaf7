pub mod ModuleProgram
pub mod Unread
