pub mod Script
pub mod NameLists
pub mod Kept
pub mod Playing
pub mod Replaying
pub mod Opened
pub mod AnswerLines
pub mod Views
