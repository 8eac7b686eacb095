pub mod Borders
pub mod Dissolving
pub mod Uniting
