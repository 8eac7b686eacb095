pub mod FacesHeld
pub mod Growth
pub mod LineLemmas
pub mod OnPlane
