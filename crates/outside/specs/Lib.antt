pub mod Faults
pub mod Told
pub mod Sent
pub mod Schedule
