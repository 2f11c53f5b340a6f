pub mod Texts
pub mod CommandLine
pub mod Tolerances
pub mod Given
pub mod Requests
pub mod RequestRows
pub mod Usage
pub mod GivenWords
