pub mod Finding
pub mod Search
