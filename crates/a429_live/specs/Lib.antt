pub mod WordsFile
pub mod LiveReplies
pub mod Resubmitted
pub mod ProgressLines
