mod AnswerLemmas
mod CardLemmas
mod ToldLemmas
mod CellLemmas
mod DistLemmas
mod PieceLemmas
mod PlacedTaskLemmas
mod QueryLemmas
mod ShowLemmas
mod TwoTasksLemmas
pub mod Values
