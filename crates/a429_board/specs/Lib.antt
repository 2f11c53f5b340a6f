pub mod Lists
pub mod Showing
pub mod Refused
