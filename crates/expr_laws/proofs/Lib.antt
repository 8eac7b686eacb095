pub mod Trees
pub mod Fronts
pub mod Moves
pub mod Readings
pub mod Faults
pub mod OneFault
