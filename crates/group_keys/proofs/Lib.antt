pub mod LawLemmas
pub mod PairLemmas
pub mod SlotLemmas
pub mod SoundLemmas
pub mod UseLemmas
pub mod Values
