pub mod GivenTables
pub mod GivenPlans
