pub mod Answers
pub mod Cells
pub mod Laws
pub mod Names
pub mod Tasks
