pub mod Extended
pub mod Laws
pub mod Made
