pub mod Words
pub mod Keys
pub mod Profiles
pub mod Laws
