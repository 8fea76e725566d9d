pub mod ChangeLemmas
pub mod FindLemmas
pub mod MaskLemmas
pub mod OrderLemmas
pub mod RunLemmas
pub mod TableLemmas
pub mod Values
