pub mod Testing
pub mod Joining
