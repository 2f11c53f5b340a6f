pub mod KnownFiles
pub mod PartLists
pub mod Places
pub mod WrittenAnswers
