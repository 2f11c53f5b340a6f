pub mod GivenStations
