mod DigitLemmas
mod GroupLemmas
mod LawLemmas
mod Texts
mod Values
