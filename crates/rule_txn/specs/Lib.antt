pub mod State
pub mod Rows
pub mod Switch
pub mod Changes
pub mod Fills
pub mod Stages
pub mod Seen
pub mod Laws
