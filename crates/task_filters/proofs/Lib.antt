pub mod AgainLemmas
pub mod ByteLemmas
pub mod FilterLemmas
pub mod OnlyLemmas
pub mod Values
