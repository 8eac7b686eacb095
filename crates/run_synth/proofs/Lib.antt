pub mod CellLemmas
pub mod InnerSets
pub mod Told
