pub mod Faces
pub mod Last
