pub mod FrameLemmas
pub mod Values
