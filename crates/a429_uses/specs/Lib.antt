pub mod Histories
pub mod Stations
pub mod Devices
pub mod Listening
pub mod Publishing
pub mod Calls
pub mod OpenPoints
