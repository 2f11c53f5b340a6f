pub mod Histories
pub mod KeptTables
pub mod Moving
pub mod Numbers
pub mod OnePointer
pub mod Told
