-- What is imported from the interface control document of a plan has the same plan.
pub mod Texts
pub mod Visible
pub mod Fields
pub mod Rows
pub mod NamedFirsts
pub mod RenumberedPlans
pub mod Groups
pub mod Records
pub mod Sound
pub mod NoFaults
pub mod FineRows
pub mod OwnWords
pub mod Faults
pub mod Imports
