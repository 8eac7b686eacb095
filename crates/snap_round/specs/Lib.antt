pub mod Counting
pub mod Joining
pub mod Paths
pub mod Snapping
