pub mod Gathering
pub mod OnPlane
pub mod Pieces
