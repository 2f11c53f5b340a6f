pub mod Replayed
pub mod WordsInMemory
