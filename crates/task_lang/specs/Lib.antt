pub mod Canonical
pub mod Laws
pub mod Printing
pub mod Reading
pub mod Script
pub mod Words
