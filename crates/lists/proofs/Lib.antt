pub mod PlaceLemmas
pub mod SortLemmas
pub mod Values
