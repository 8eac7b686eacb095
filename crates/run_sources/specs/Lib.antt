pub mod Budget
pub mod Decoding
pub mod Formats
pub mod Sources
pub mod Titles
