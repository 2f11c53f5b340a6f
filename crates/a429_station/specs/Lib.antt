pub mod Course
pub mod Faults
pub mod Lending
pub mod Numbered
pub mod Resubmitting
pub mod Working
pub mod Workers
