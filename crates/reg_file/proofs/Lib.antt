pub mod CallLemmas
mod Places
mod Values
pub mod ReadLemmas
