pub mod Table
pub mod Machine
pub mod Faults
pub mod Endings
pub mod Stacks
pub mod Laws
