pub mod ByPlaces
pub mod Feeding
