pub mod FaceSets
pub mod Features
pub mod OnPlane
pub mod Origins
pub mod Stops
pub mod Targets
