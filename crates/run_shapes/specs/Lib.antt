pub mod Cleaning
pub mod Cutting
pub mod Exploding
pub mod Islands
