mod RestLemmas
mod ScriptLemmas
mod PlaceLemmas
mod CaptureLemmas
mod Values
mod GenFilesLemmas
