pub mod Bytes
pub mod Lines
pub mod Faults
pub mod Within
pub mod Laws
pub mod Replay
pub mod Taken
pub mod Growth
