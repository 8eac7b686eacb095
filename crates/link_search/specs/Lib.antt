pub mod Descent
pub mod Parting
pub mod PlaceNumbers
pub mod Rows
pub mod Topmost
pub mod Under
