pub mod Grid
pub mod Order
pub mod Boxes
pub mod Sizes
pub mod Drawn
