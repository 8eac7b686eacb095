pub mod Calculations
pub mod Laws
