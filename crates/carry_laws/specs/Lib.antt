pub mod Agreement
pub mod Instances
pub mod Laws
