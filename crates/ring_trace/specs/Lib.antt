pub mod Rings
pub mod Ways
pub mod Keys
pub mod Pairing
pub mod Traced
pub mod Turns
