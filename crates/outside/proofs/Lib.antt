pub mod ToldLemmas
pub mod SentLemmas
mod Values
