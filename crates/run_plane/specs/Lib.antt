pub mod Begun
pub mod LaidOut
pub mod LineArcs
pub mod OnPlane
pub mod Shapes
