pub mod Likes
pub mod Moves
pub mod Paths
pub mod WholeFits
pub mod WholeSteps
