pub mod Puts
pub mod Standings
pub mod Calls
pub mod AheadLemmas
pub mod Worked
