pub mod Records
pub mod Sights
pub mod Soundness
pub mod Changes
pub mod Packets
pub mod Histories
pub mod Laws
