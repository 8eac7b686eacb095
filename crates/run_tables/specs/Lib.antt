pub mod Gathering
pub mod Made
pub mod Matching
pub mod Pieces
