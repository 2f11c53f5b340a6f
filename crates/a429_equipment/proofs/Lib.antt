mod InNames
pub mod IndexPlaces
pub mod Ranges
pub mod Cutting
pub mod Lasting
pub mod Receiving
pub mod Stations
mod Sorting
mod Groups
