pub mod Draws
pub mod Cells
pub mod Line
