pub mod Pieces
pub mod ExpressionFaults
pub mod Steps
pub mod Taking
pub mod Cuts
pub mod Readings
pub mod Numbers
pub mod Past
