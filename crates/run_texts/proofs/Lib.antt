pub mod Along
pub mod Drawing
pub mod Grown
pub mod LayerNames
pub mod Tracing
