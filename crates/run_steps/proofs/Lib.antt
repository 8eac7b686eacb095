pub mod AtWork
pub mod ByPlace
pub mod Counting
pub mod OnPlane
pub mod Refusals
