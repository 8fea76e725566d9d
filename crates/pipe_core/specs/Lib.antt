pub mod Rules
pub mod Groups
pub mod Flow
pub mod Bridge
