pub mod Numbers
pub mod LineLemmas
pub mod Steps
pub mod Ahead
pub mod Bursts
pub mod Entries
pub mod Running
