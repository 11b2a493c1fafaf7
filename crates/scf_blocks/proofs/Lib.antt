pub mod Scopes
pub mod Lists
pub mod Trees
pub mod Counts
pub mod Laws
pub mod Behind
pub mod Funcs
pub mod Ends
