pub mod Effects
pub mod Running
