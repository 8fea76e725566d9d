pub mod CellLemmas
pub mod EntryLemmas
pub mod LeftLemmas
pub mod RowLemmas
pub mod Values
