pub mod Lines
pub mod ArcsBetween
pub mod Sources
pub mod Linked
pub mod Regions
