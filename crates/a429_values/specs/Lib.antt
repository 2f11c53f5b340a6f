pub mod Words
pub mod Views
pub mod Rule
pub mod Ends
pub mod Seats
pub mod Wires
pub mod Later
