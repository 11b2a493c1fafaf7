pub mod Launched
