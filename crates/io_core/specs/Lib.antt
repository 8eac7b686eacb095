pub mod Counts
pub mod Contents
pub mod Whole
pub mod Memory
