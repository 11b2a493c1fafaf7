pub mod Machine
pub mod Carries
pub mod Simulates
pub mod Strict
pub mod Reading
pub mod Laws
