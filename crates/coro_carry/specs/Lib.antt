pub mod Machines
pub mod Relation
pub mod Laws
