pub mod Faces
pub mod Holders
