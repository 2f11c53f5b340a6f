pub mod CommandWords
pub mod ReadWords
pub mod Decimals
pub mod AskedWords
pub mod NoOptions
