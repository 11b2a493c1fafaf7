pub mod Basics
pub mod Asked
pub mod InTurn
pub mod InOrder
pub mod Fuel
pub mod Law
pub mod Itself
pub mod Renamed
