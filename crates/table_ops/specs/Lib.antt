pub mod Filtering
pub mod Join
pub mod JoinColumns
