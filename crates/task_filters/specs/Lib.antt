pub mod Filters
pub mod Laws
pub mod Printing
pub mod Terms
