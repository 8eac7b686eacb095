pub mod CommandTable
pub mod Words
