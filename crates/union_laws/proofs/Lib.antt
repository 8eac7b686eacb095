pub mod ChoiceLists
pub mod ChosenPoints
pub mod UnionTold
pub mod Apart
pub mod Cover
