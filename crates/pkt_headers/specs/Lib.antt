pub mod Frames
pub mod Ipv4Alone
pub mod Laws
pub mod Networks
pub mod Packets
pub mod Transports
