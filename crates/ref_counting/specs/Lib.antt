pub mod Order
pub mod Objects
pub mod Shape
