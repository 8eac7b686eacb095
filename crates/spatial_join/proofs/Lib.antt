pub mod BesideLemmas
pub mod MatchLemmas
pub mod JoinLemmas
pub mod ColumnLemmas
