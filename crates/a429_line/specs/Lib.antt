pub mod Cuts
pub mod LineBytes
pub mod Reports
pub mod Slots
pub mod Stages
pub mod KeptLines
pub mod Stretches
