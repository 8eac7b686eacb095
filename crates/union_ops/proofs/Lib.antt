pub mod ChoiceOrder
pub mod ChoiceLemmas
pub mod UnionLemmas
pub mod NameLemmas
pub mod TableLemmas
