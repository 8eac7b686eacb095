pub mod EachLayer
pub mod Stepping
pub mod TableSteps
pub mod MergeStep
pub mod PlaceJoins
pub mod PolygonSteps
pub mod UnionStep
pub mod PlaceSteps
