pub mod Laws
pub mod Placement
pub mod Sights
pub mod Steps
