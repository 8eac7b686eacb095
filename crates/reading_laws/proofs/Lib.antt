pub mod JsonRests
pub mod JsonNumbers
pub mod JsonStrings
pub mod JsonMoves
pub mod JsonEnds
pub mod Utf8Ends
pub mod Readings
