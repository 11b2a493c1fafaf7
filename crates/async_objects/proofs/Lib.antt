pub mod ListLemmas
pub mod SlotLemmas
pub mod ViewLemmas
pub mod SoundLemmas
pub mod LoopLemmas
pub mod TableLemmas
pub mod SetLemmas
