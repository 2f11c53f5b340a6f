pub mod Calls
pub mod Parts
pub mod Rooms
