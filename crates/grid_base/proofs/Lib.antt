pub mod Bounds
pub mod BoxLemmas
pub mod PointSearch
pub mod LastLemmas
pub mod RepeatLemmas
pub mod ReverseLemmas
