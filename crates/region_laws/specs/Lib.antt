pub mod Regions
pub mod Followed
pub mod Printed
pub mod Ties
pub mod Answered
pub mod Gaps
