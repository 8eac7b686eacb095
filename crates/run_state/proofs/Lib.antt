pub mod Mapped
pub mod Numbers
pub mod OnPlane
pub mod Rows
pub mod Stops
pub mod TargetLemmas
