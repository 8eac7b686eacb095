pub mod ArrivalLemmas
pub mod CornerLemmas
pub mod RayLemmas
pub mod RowLemmas
pub mod TopmostLemmas
pub mod TreeLemmas
pub mod UnderLemmas
