pub mod ListLemmas
pub mod FlowLemmas
pub mod LiveLemmas
pub mod StateLemmas
pub mod BeforeLemmas
pub mod TableLemmas
