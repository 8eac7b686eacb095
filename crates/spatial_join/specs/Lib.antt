pub mod Beside
pub mod Matches
pub mod Joined
pub mod CalcColumns
