pub mod Turning
pub mod Driving
pub mod Tables
