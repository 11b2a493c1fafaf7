pub mod Words
pub mod PairLemmas
pub mod CountLemmas
pub mod FlowLemmas
pub mod WellLemmas
pub mod LawLemmas
