pub mod Names
pub mod Lists
pub mod OneKind
pub mod FormLines
pub mod Pushed
