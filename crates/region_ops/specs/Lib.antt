pub mod Cut
pub mod Dissolved
pub mod Cleaned
pub mod Filled
pub mod Items
pub mod Exploded
pub mod Mosaic
