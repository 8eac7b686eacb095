pub mod Around
pub mod Places
pub mod Labels
pub mod Rings
pub mod Classes
pub mod UsedOnce
