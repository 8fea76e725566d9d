pub mod CutLemmas
pub mod Values
pub mod WordLemmas
