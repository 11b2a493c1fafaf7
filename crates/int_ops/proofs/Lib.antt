pub mod Readings
pub mod Results
pub mod LawProofs
pub mod Equations
