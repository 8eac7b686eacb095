pub mod Ends
pub mod Messages
pub mod Status
pub mod Telling
