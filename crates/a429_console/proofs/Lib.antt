pub mod Endings
pub mod KindReplies
pub mod Pieces
pub mod ReadingParts
pub mod Refused
pub mod PutReplies
pub mod SoFar
pub mod EntryLines
pub mod CallEnds
mod NamesFound
