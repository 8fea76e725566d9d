pub mod PassLemmas
mod Values
