pub mod LookLemmas
pub mod PlacementLemmas
pub mod SightLemmas
pub mod StepLemmas
pub mod Values
