pub mod Inner
pub mod Ranks
pub mod FirstLemmas
pub mod OwnerSets
pub mod FillLemmas
pub mod ExplodedLemmas
pub mod ListOrder
pub mod MosaicLemmas
