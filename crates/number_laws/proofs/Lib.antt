pub mod Places
pub mod Trees
pub mod Calls
pub mod InOrder
pub mod Once
pub mod Renaming
