pub mod BegunLayers
pub mod Drawing
pub mod DrawnLayers
pub mod NextFeatures
