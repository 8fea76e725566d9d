pub mod CanonicalLemmas
pub mod PrintLemmas
pub mod ReadLemmas
pub mod SaidLemmas
pub mod TokenLemmas
pub mod Values
