pub mod Reading
pub mod FileReading
pub mod MemoryMoves
pub mod Entries
pub mod FilesSteps
