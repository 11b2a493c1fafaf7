-- What the contracts of sources, sinks and the two calls over them cite.
pub mod Faults
pub mod Memory
pub mod Whole
