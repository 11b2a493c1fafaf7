pub mod Formed
pub mod Prints
pub mod MadeForms
pub mod RowForms
pub mod Outs
pub mod WalkForms
pub mod RenamedForms
pub mod TextLaw
