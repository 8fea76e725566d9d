pub mod Blocks
pub mod Geometry
