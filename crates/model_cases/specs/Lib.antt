pub mod ClosedRuns
pub mod Classes
pub mod Counted
