pub mod ReadLemmas
pub mod PathLemmas
pub mod TextLemmas
pub mod NumberLemmas
pub mod FeatureLemmas
pub mod PropertyLemmas
pub mod KindLemmas
pub mod SoundLemmas
pub mod SoundReads
mod TakingLemmas
mod StraightLemmas
