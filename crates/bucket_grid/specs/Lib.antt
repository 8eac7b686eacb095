pub mod Rects
pub mod Slabs
pub mod Division
pub mod Tree
pub mod Leading
