pub mod Counting
pub mod Ended
pub mod Joined
pub mod Meeting
pub mod Numbered
pub mod OneRun
pub mod Plans
pub mod Stopping
