pub mod Listened
pub mod Printing
pub mod Opened
pub mod Given
