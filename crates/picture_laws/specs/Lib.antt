pub mod Drawn
pub mod Pictured
pub mod Planes
