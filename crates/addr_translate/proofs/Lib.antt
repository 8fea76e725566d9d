pub mod BlockLemmas
pub mod GeometryLemmas
pub mod Values
