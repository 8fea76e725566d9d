pub mod Packets
pub mod Frames
pub mod Captures
pub mod Scripts
pub mod Places
pub mod GenFiles
pub mod Laws
