pub mod Beside
pub mod Differences
pub mod OnPlane
pub mod UnitedLayers
pub mod Widths
