pub mod Machine
pub mod Reading
pub mod AsciiStrings
pub mod Faults
pub mod Laws
pub mod Taking
pub mod Straight
