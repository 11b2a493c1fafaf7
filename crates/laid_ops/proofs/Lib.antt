pub mod Scopes
pub mod Leaves
pub mod Laying
pub mod Whole
