pub mod Filters
pub mod FilterTexts
pub mod Passing
pub mod Receiving
pub mod Sources
