pub mod Decoded
pub mod Given
pub mod Growing
pub mod Titles
