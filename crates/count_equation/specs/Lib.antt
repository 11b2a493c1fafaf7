pub mod Equation
pub mod Covers
pub mod Worked
pub mod Laws
