pub mod Rings
pub mod Told
