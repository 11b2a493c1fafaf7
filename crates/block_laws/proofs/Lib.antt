pub mod Words
pub mod Rows
pub mod Calm
pub mod Scopes
pub mod Within
pub mod Splits
pub mod Flow
pub mod Whole
