pub mod RunLemmas
pub mod SideLemmas
pub mod PointLemmas
