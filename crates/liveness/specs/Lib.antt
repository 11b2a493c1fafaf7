pub mod Live
pub mod Visits
pub mod Flow
pub mod State
pub mod Tables
