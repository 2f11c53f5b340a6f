pub mod Figures
pub mod Data
pub mod Kept
pub mod Pairs
pub mod Past
pub mod Survey
pub mod Starts
pub mod Expected
