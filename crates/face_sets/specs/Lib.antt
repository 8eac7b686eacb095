pub mod Parts
pub mod Sets
pub mod Owners
pub mod Boundary
pub mod Joined
pub mod Gaps
