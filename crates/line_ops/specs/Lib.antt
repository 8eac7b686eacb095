pub mod Inside
pub mod Points
pub mod Runs
pub mod Sided
