pub mod EachLemmas
pub mod SortLemmas
pub mod EarlyLemmas
pub mod IslandLemmas
