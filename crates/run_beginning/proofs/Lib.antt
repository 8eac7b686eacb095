pub mod BegunLemmas
pub mod BegunOnPlane
pub mod DrawingLemmas
pub mod DrawnLemmas
