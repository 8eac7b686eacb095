pub mod LinkCounts
pub mod Alone
pub mod IslandsLeft
