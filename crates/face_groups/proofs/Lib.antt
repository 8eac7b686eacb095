pub mod Runs
pub mod Groups
