pub mod Limits
pub mod WideNumbers
pub mod UnknownTypes
