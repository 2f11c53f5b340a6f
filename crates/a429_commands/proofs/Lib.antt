pub mod ToTheEnd
pub mod AllWords
pub mod RequestAnswers
